use Rattle.std.proofs.Common.{◌++◌, List, ℕ, ap, ◌∙◌, subst, sym}
use Rattle.checkpoint.specs.Kept.{KeptWords, AreFirstWords}
use Rattle.checkpoint.specs.Writing.{words_from}
use Rattle.checkpoint.proofs.KeptWords.{all_words}
use Rattle.checkpoint.proofs.kept_log.KeptLog.keep.Goals as goal

pub returns-clause-words : goal.returns-clause-words
returns-clause-words c =
    let dates = c.args.dates.now in
    let count = c.self.inside.count in
    let before : KeptWords = record { count = count; words = c.self.inside.words.items } in
    let first : AreFirstWords dates before = subst (AreFirstWords dates) (sym c.self.view_is) c.requires in
    all_words dates before c.put_words.new.text.items first (c.in_ok-put_words.ensures ∙ ap (λ (l : List ℕ). l ++ words_from dates count) c.reserve_words.ensures)
