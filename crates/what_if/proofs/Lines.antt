-- What the first line of a text, and the lines behind it, give.
use Rattle.std.proofs.Common.{◌≡◌, ℕ, ◌+◌, ◌<◌, ◌≤◌, Bool, eqb, List, [], ◌∷◌, take, drop, length, sym, ap, ◌∙◌, subst, arith, inl, inr}
use Rattle.std.specs.Prelude.{Result, Ok, Err, not}
use Rattle.std.specs.List.{position_or_len}
use Rattle.std.specs.Str.Lines.{strip_carriage_return}
use Rattle.std.proofs.lemmas.Bool.{cases_lt}
use Rattle.std.proofs.lemmas.List.{take_all}
use Rattle.std.proofs.lemmas.List.Sums.{fails_before_first, prefix_len-le-length}
use Rattle.std.proofs.lemmas.List.Splits.{slice_split_first, slice_split_none}
use Rattle.line_base.specs.declared.event.Parts.{Parts}
use Rattle.line_core.specs.Schedule.{lines_of}
use Rattle.what_if.specs.Edited.{Inputs}
use Rattle.what_if.specs.Edits.{LeadsTo, IsRefused, Stopped, EditsGive, ends, follows, refuses}

abbrev is_feed : ℕ → Bool
is_feed byte = eqb byte 10

pub line-within : (text : List ℕ) → position_or_len is_feed text ≤ length text
line-within text = prefix_len-le-length (λ byte. not (is_feed byte)) text

module _ (text : List ℕ) (end : ℕ) (found : end ≡ position_or_len is_feed text) where
  -- a line that another one follows
  pub lines-more : end < length text → lines_of text ≡ take end text ∷ lines_of (drop (end + 1) text)
  lines-more more =
      slice_split_first is_feed text 0 (omega (arith, found, more))
      ∙ ap (λ e. take e text ∷ lines_of (drop (e + 1) text)) (sym found)

  -- the last line
  pub lines-last : end ≡ length text → lines_of text ≡ take end text ∷ []
  lines-last all =
      slice_split_none is_feed text (λ k d low. fails_before_first is_feed text k d (omega (arith, found, all, low)))
      ∙ ap (λ line. line ∷ []) (sym (take_all end text (omega (arith, all))))

  module _ (g : Parts) (n : ℕ) (inputs : Inputs) where
    pub comes-more : (next : Inputs) (outcome : Result Inputs Stopped) → end < length text → LeadsTo g (strip_carriage_return (take end text)) inputs next → EditsGive g (lines_of (drop (end + 1) text)) (n + 1) next outcome → EditsGive g (lines_of text) n inputs outcome
    comes-more next outcome more leads rest =
        subst (λ lines. EditsGive g lines n inputs outcome) (sym (lines-more more)) (
        follows (take end text) (lines_of (drop (end + 1) text)) n inputs next outcome leads rest)

    pub comes-last : (next : Inputs) → end ≡ length text → LeadsTo g (strip_carriage_return (take end text)) inputs next → EditsGive g (lines_of text) n inputs (Ok next)
    comes-last next all leads =
        subst (λ lines. EditsGive g lines n inputs (Ok next)) (sym (lines-last all)) (
        follows (take end text) [] n inputs next (Ok next) leads (ends (n + 1) next))

    pub comes-refused : end ≤ length text → IsRefused g (strip_carriage_return (take end text)) inputs → EditsGive g (lines_of text) n inputs (Err (record { line = n; left = inputs }))
    comes-refused within refused =
        let Comes : List (List ℕ) → Type 0 = λ lines. EditsGive g lines n inputs (Err (record { line = n; left = inputs })) in
        elim (cases_lt end (length text)) [
          | inl more ↦
              subst Comes (sym (lines-more more)) (
              refuses (take end text) (lines_of (drop (end + 1) text)) n inputs refused)
          | inr all ↦
              subst Comes (sym (lines-last (omega (arith, all, within)))) (
              refuses (take end text) [] n inputs refused)
        ]
