use Rattle.std.proofs.Common.{◌≡◌, ◌+◌, ◌-◌, ◌++◌, take, drop, sym, ap, ◌∙◌, arith}
use Rattle.std.specs.List.{prefix_len}
use Rattle.std.proofs.lemmas.List.{drop-drop}
use Rattle.checkpoint.specs.Reading.{Reading, is_word_byte}
use Rattle.checkpoint.proofs.WordBytes.{word_taken, word_dropped}
use Rattle.checkpoint.proofs.reader.Reader.word.Goals as goal

pub returns-clause-tells : goal.returns-clause-tells
returns-clause-tells c word after is ends whole =
    let at = c.self.inside.at in
    let text = c.self.inside.text.now in
    let n = c.word_len.result in
    let left = ap (λ (r : Reading). r.rest) c.self.view_is ∙ whole in
    let long = c.word_len.ensures.count ∙ ap (prefix_len is_word_byte) (c.rest.ensures ∙ whole) in
    let same : at + n - at ≡ n = omega arith in (
      ap (λ k. take k (drop at text)) (same ∙ long) ∙ ap (take (prefix_len is_word_byte (word ++ after))) left ∙ word_taken word after is ends,
      sym (drop-drop n at text) ∙ ap (drop n) left ∙ ap (λ k. drop k (word ++ after)) long ∙ word_dropped word after is ends,
    )
