-- Which words are numbers: what the code reads is what the definition says.
use Rattle.std.proofs.Common.{refl, inl, inr, ◌≡◌, ◌≤◌, ◌<◌, ◌^◌, ◌∙◌, ℕ, true, false, List, Option, Some, None, decimal, ap}
use Rattle.std.specs.Prelude.{◌&&◌, nat_le}
use Rattle.std.specs.Str.{bytes_eq}
use Rattle.std.specs.Str.Parse.{digits_value}
use Rattle.std.proofs.lemmas.Bool.{cases_Bool, and_parts, le-leb, lt-leb, leb-true}
use Rattle.std.proofs.lemmas.Fmt.{decimal_is_IsNumeral}
use Rattle.std.proofs.lemmas.Slice.Eq.{bytes_eq-Decides}
use Rattle.line_base.specs.Text.{is_between}
use Rattle.command_line.specs.Numbers.{number_in}

-- the digits of what is written of a number have its value
digits_value-decimal : (n : ℕ) (word : List ℕ) → n < 2 ^ 64 → word ≡ decimal n → digits_value 10 word ≡ n
digits_value-decimal n word small is = ap (digits_value 10) is ∙ (decimal_is_IsNumeral n small).1

-- what is written of a number within the limits is that number
pub number_in-within : (least most n : ℕ) (word : List ℕ) → n < 2 ^ 64 → word ≡ decimal n → least ≤ n → n ≤ most
    → Some n ≡ number_in least most word
unfolding number_in
number_in-within least most n word small is low high =
    let value : digits_value 10 word ≡ n = digits_value-decimal n word small is in
    let same : bytes_eq word (decimal n) ≡ true = (bytes_eq-Decides word (decimal n)).1 is in
    let above : nat_le least n ≡ true = le-leb least n low in
    let below : nat_le n most ≡ true = le-leb n most high in
    rw (value, same, above, below) refl

-- what is written of a number below the limits is none
pub number_in-below : (least most n : ℕ) (word : List ℕ) → n < 2 ^ 64 → word ≡ decimal n → n < least
    → ◌≡◌ {A = Option ℕ} None (number_in least most word)
unfolding number_in
number_in-below least most n word small is low =
    let value : digits_value 10 word ≡ n = digits_value-decimal n word small is in
    let same : bytes_eq word (decimal n) ≡ true = (bytes_eq-Decides word (decimal n)).1 is in
    let below : nat_le least n ≡ false = lt-leb least n low in
    rw (value, same, below) refl

-- nor is a word that no number up to the greatest is written as
pub number_in-other : (least most : ℕ) (word : List ℕ) → ((n : ℕ) → n ≤ most → word ≡ decimal n → ⊥)
    → ◌≡◌ {A = Option ℕ} None (number_in least most word)
unfolding number_in
number_in-other least most word none =
    let n = digits_value 10 word in
    elim (cases_Bool (bytes_eq word (decimal n) && is_between least most n)) [
      | inl h ↦
          let parts = and_parts (bytes_eq word (decimal n)) (is_between least most n) h in
          let within = and_parts (nat_le least n) (nat_le n most) parts.1 in
          absurd (none n (leb-true n most within.1) ((bytes_eq-Decides word (decimal n)).0 parts.0))
      | inr h ↦ rw h refl
    ]
