-- A latest date in one word: the greatest word stands for none.
use Rattle.std.specs.Prelude.{◌≡◌, ℕ, ◌-◌, ◌^◌, ◌==◌, if◌then◌else◌, Option, None, Some}
use Rattle.std.proofs.Common.{◌≢◌, eqb, sym, ap, ◌∙◌, inl, inr}
use Rattle.std.proofs.lemmas.Bool.{cases_eq, cond-true, cond-false, eq-eqb, ne_eqb}

-- the date that a word stands for, if it stands for one
unfoldable pub date_of : ℕ → Option ℕ
date_of word = if word == 2 ^ 64 - 1 then None else Some word

-- the word that stands for a date, or for none
abbrev pub word_of : Option ℕ → ℕ
word_of None = 2 ^ 64 - 1
word_of (Some date) = date

pub date_of-none : (w : ℕ) → w ≡ 2 ^ 64 - 1 → date_of w ≡ None
unfolding date_of
date_of-none w is = cond-true (eqb w (2 ^ 64 - 1)) None (Some w) (eq-eqb w (2 ^ 64 - 1) is)

pub date_of-some : (w : ℕ) → w ≢ 2 ^ 64 - 1 → date_of w ≡ Some w
unfolding date_of
date_of-some w other = cond-false (eqb w (2 ^ 64 - 1)) None (Some w) (ne_eqb w (2 ^ 64 - 1) other)

-- no two words stand for the same
pub word_of-date_of : (w : ℕ) → word_of (date_of w) ≡ w
word_of-date_of w =
    elim (cases_eq w (2 ^ 64 - 1)) [
      | inl none ↦ ap word_of (date_of-none w none) ∙ sym none
      | inr some ↦ ap word_of (date_of-some w some)
    ]
