-- Facts on the decimal text of a number below 2 ^ 64, and on reading it back.
use Rattle.std.proofs.Common.{◌≡◌, ◌≢◌, ℕ, zero, suc, ◌<◌, ◌^◌, true, List, length, get_or, decimal, sym, ap, ◌∙◌, subst, arith}
use Rattle.std.specs.Str.Parse.{AllDigits, IsNumeral, digits_value, without_leading_plus}
use Rattle.std.specs.Str.{IsUtf8}
use Rattle.std.proofs.lemmas.Str.Parse.{IsNumeralModel, numerals_by_value, tells_digits, without_leading_plus_none}
use Rattle.std.proofs.lemmas.Fmt.{decimal-digits_value, decimal_is_IsNumeral, first_decimal, IsAscii-decimal, decimal_digit}
use Rattle.std.proofs.lemmas.Str.{IsUtf8-from_ascii}
use Rattle.line_base.specs.Text.{starts_plainly}

own : IsNumeralModel (AllDigits 10) (digits_value 10)
own = numerals_by_value (AllDigits 10) tells_digits

-- a text whose first byte is above `0` begins plainly
first_plain : (text : List ℕ) → 48 < get_or text 0 0 → starts_plainly text ≡ true
first_plain text h = grind arith

-- what begins plainly has no plus sign in front
plain_first : (text : List ℕ) → starts_plainly text ≡ true → get_or text 0 0 ≢ 43
plain_first text h = grind arith

-- what begins plainly and with a zero is that zero
plain_zero : (text : List ℕ) → starts_plainly text ≡ true → get_or text 0 0 ≡ 48 → length text ≡ 1
plain_zero text h zero_first = grind arith

-- what is written in decimal begins plainly
pub starts_plainly-decimal : (n : ℕ) → n < 2 ^ 64 → starts_plainly (decimal n) ≡ true
starts_plainly-decimal zero h = ap starts_plainly (decimal_digit 0 (omega arith))
starts_plainly-decimal (suc m) h = first_plain (decimal (suc m)) (first_decimal (suc m) (omega arith) h)

-- what begins plainly has no leading plus
pub no_plus : (text : List ℕ) → starts_plainly text ≡ true → without_leading_plus text ≡ text
no_plus text h = without_leading_plus_none text (plain_first text h)

-- a numeral that begins plainly is what is written of its value
pub decimal-read : (text : List ℕ) → starts_plainly text ≡ true → IsNumeral 10 text → digits_value 10 text < 2 ^ 64 → text ≡ decimal (digits_value 10 text)
decimal-read text plain numeral small = sym (decimal-digits_value own text numeral.1 numeral.0 (plain_zero text plain) small)

-- what is written in decimal is text
pub IsUtf8-decimal : (text : List ℕ) (n : ℕ) → n < 2 ^ 64 → text ≡ decimal n → IsUtf8 text
IsUtf8-decimal text n h is = subst IsUtf8 (sym is) (IsUtf8-from_ascii (decimal n) (IsAscii-decimal n h))

-- what is written in decimal is read as the number
pub reads-decimal : (text : List ℕ) (n : ℕ) → n < 2 ^ 64 → text ≡ decimal n → IsNumeral 10 (without_leading_plus text) × (digits_value 10 (without_leading_plus text) ≡ n)
reads-decimal text n h is =
    let plain : starts_plainly text ≡ true = rw is (starts_plainly-decimal n h) in
    rw (no_plus text plain, is) (decimal_is_IsNumeral n h)

-- what begins plainly and is read as a number is what is written of it
pub decimal-read_plus : (text : List ℕ) (n : ℕ) → starts_plainly text ≡ true → IsNumeral 10 (without_leading_plus text) → digits_value 10 (without_leading_plus text) < 2 ^ 64 → n ≡ digits_value 10 (without_leading_plus text) → text ≡ decimal n
decimal-read_plus text n plain numeral small is =
    let same = no_plus text plain in
    let numeral' = subst (λ (t : List ℕ). IsNumeral 10 t) same numeral in
    let small' = subst (λ (t : List ℕ). digits_value 10 t < 2 ^ 64) same small in
    decimal-read text plain numeral' small' ∙ ap decimal (ap (digits_value 10) (sym same) ∙ sym is)
