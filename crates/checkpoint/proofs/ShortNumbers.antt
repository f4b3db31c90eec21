-- Numbers of one digit or two.
use Rattle.std.proofs.Common.{◌≡◌, ℕ, ◌+◌, ◌-◌, ◌*◌, ◌/◌, ◌%◌, ◌<◌, ◌≤◌, List, [], ◌∷◌, ◌++◌, length, slice_index_or, sym, ap, ◌∙◌, arith}
use Rattle.std.specs.Prelude.{decimal}
use Rattle.std.proofs.lemmas.Fmt.{decimal_digit, decimal_step}

pub one_digit :
    (text : List ℕ) → length text ≡ 1 → 48 ≤ slice_index_or text 0 0 → slice_index_or text 0 0 < 58
    → text ≡ decimal (slice_index_or text 0 0 - 48)
one_digit [] size low high = absurd (omega arith)
one_digit (c ∷ []) size low high =
    let glyph : 48 + (c - 48) ≡ c = omega arith in
    sym (decimal_digit (c - 48) (omega arith) ∙ ap (λ d. d ∷ []) glyph)
one_digit (c ∷ d ∷ text) size low high = absurd (omega arith)

-- the first is no zero
pub two_digits :
    (text : List ℕ) → length text ≡ 2 → 49 ≤ slice_index_or text 0 0 → slice_index_or text 0 0 < 58
    → 48 ≤ slice_index_or text 1 0 → slice_index_or text 1 0 < 58
    → text ≡ decimal ((slice_index_or text 0 0 - 48) * 10 + (slice_index_or text 1 0 - 48))
two_digits [] size low high from to = absurd (omega arith)
two_digits (c ∷ []) size low high from to = absurd (omega arith)
two_digits (c ∷ d ∷ []) size low high from to =
    let tens : ℕ = c - 48 in
    let n : ℕ = tens * 10 + (d - 48) in
    let front : n / 10 ≡ tens = omega arith in
    let end : 48 + n % 10 ≡ d = omega arith in
    let glyph : 48 + tens ≡ c = omega arith in
    let begins : decimal tens ≡ c ∷ [] = decimal_digit tens (omega arith) ∙ ap (λ x. x ∷ []) glyph in
    sym (decimal_step n (omega arith) (omega arith) ∙ (λ i. decimal (front i) ++ (end i ∷ [])) ∙ ap (λ l. l ++ (d ∷ [])) begins)
two_digits (c ∷ d ∷ e ∷ text) size low high from to = absurd (omega arith)
