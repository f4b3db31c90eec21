-- What `parse` reads of a text of decimal digits.
use Rattle.std.proofs.Common.{refl, inl, inr, ◌≡◌, ◌≤◌, ◌<◌, ◌^◌, ℕ, true, false, List, length, Option, Some, None, Result, ap, arith, rules}
use Rattle.std.specs.Prelude.{nat_le}
use Rattle.std.specs.Char.{is_ascii_digit}
use Rattle.std.specs.List.{list_all}
use Rattle.std.specs.Result.{OkIff}
use Rattle.std.specs.Str.{IsUtf8}
use Rattle.std.specs.Str.Parse.{ParsesUnsigned, digits_value}
use Rattle.std.proofs.lemmas.Bool.{cases_lt, le-leb, lt-leb}
use Rattle.std.proofs.Math.Bool.{and-false}
use Rattle.std.proofs.lemmas.Str.{IsUtf8-from_ascii}
use Rattle.std.proofs.lemmas.Fmt.{IsAscii-from_digits}
use Rattle.std.proofs.lemmas.Str.Parse.{IsNumeralModel, numerals_by_value, parse_digits}
use Rattle.demand_feed.specs.Field.{decimal_up_to, is_decimal}

own : IsNumeralModel (λ ds. list_all is_ascii_digit ds ≡ true) (digits_value 10)
own = numerals_by_value _ (search rules)

-- a text of 1 to 20 digits has one, and no other byte
pub has_one : (text : List ℕ) → is_decimal text ≡ true → 0 < length text
has_one text h = grind arith

has_digits : (text : List ℕ) → is_decimal text ≡ true → list_all is_ascii_digit text ≡ true
has_digits text h = grind arith

-- a text of digits is text
pub IsUtf8-digits : (text : List ℕ) → is_decimal text ≡ true → IsUtf8 text
IsUtf8-digits text h = IsUtf8-from_ascii text (IsAscii-from_digits text (own.to text (has_digits text h)))

-- what `parse` answers at digits alone
pub parse-digits : {E : Type 0} (text : List ℕ) (r : Result ℕ E) → is_decimal text ≡ true → ParsesUnsigned 64 10 text r
    → OkIff r ((0 < length text) × (digits_value 10 text < 2 ^ 64)) (digits_value 10 text)
parse-digits text r h parsed = parse_digits own 64 text r parsed (has_digits text h)

-- a number within the limit is the text's number
pub decimal_up_to-small : (most : ℕ) (text : List ℕ) (n : ℕ) → is_decimal text ≡ true → n ≡ digits_value 10 text → n ≤ most → Some n ≡ decimal_up_to most text
unfolding decimal_up_to
decimal_up_to-small most text n h is small =
    let fits : nat_le (digits_value 10 text) most ≡ true = le-leb _ _ (omega (arith, is)) in
    rw (h, fits) (ap Some is)

-- digits above the limit give none
pub decimal_up_to-large : (most : ℕ) (text : List ℕ) → most < digits_value 10 text → ◌≡◌ {A = Option ℕ} None (decimal_up_to most text)
unfolding decimal_up_to
decimal_up_to-large most text large =
    let above : nat_le (digits_value 10 text) most ≡ false = lt-leb (digits_value 10 text) most large in
    rw above (rw (and-false (is_decimal text)) refl)

-- nor does what is no number
pub decimal_up_to-other : (most : ℕ) (text : List ℕ) → is_decimal text ≡ false → ◌≡◌ {A = Option ℕ} None (decimal_up_to most text)
unfolding decimal_up_to
decimal_up_to-other most text h = rw h refl

-- a number that `parse` finds too large is above every limit of 64 bits
pub above-limit : (some most value : ℕ) → most < 2 ^ 64 → 0 < some → ¬ ((0 < some) × (value < 2 ^ 64)) → most < value
above-limit some most value limit one refused = elim (cases_lt value (2 ^ 64)) [
  | inl small ↦ absurd (refused (one, small))
  | inr large ↦ omega arith
]
