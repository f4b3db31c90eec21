-- A ratio by its whole part and what is left of it.
use Rattle.std.proofs.Common.{◌≡◌, ℕ, zero, suc, ◌+◌, ◌*◌, ◌/◌, ◌%◌, ◌<◌, ◌≤◌, ◌++◌, refl, sym, ap, ◌∙◌, arith}
use Rattle.std.specs.Prelude.{codes, decimal}
use Rattle.std.proofs.Math.Nat.{mul-add-div_right, mul-add-div, mul-add-mod_self_left, div-add-mod, mul-div-le, lt-div-mul-add, mul_comm}
use Rattle.line_summary.specs.Thousandths.{three_digits, nearest, decimal_text, thousandths}

by_parts : (part whole q r : ℕ) → whole * q + r ≡ part → 2000 * part + whole ≡ 1000 * q * (2 * whole) + (2000 * r + whole)
by_parts part whole q r is = rw (← is) (grind arith)

-- a thousand for each whole, and those of the rest
pub nearest-parts : (part whole : ℕ) → 0 < whole → nearest part whole ≡ 1000 * (part / whole) + nearest (part % whole) whole
unfolding nearest
nearest-parts part whole some =
    let split = by_parts part whole (part / whole) (part % whole) (div-add-mod part whole) in
    ap (λ n. n / (2 * whole)) split ∙ mul-add-div_right (omega arith) (1000 * (part / whole)) (2000 * (part % whole) + whole)

some-text : (part whole : ℕ) → 0 < whole → thousandths part whole ≡ decimal_text (nearest part whole)
some-text part zero some = absurd (omega arith)
some-text part (suc whole) some = refl

-- the text by the wholes and the thousandths of the rest
pub thousandths-parts : (part whole rest : ℕ) → 0 < whole → rest ≡ (2000 * (part % whole) + whole) / (2 * whole) → thousandths part whole ≡ decimal (part / whole + rest / 1000) ++ (codes "." ++ three_digits (rest % 1000))
unfolding decimal_text nearest
thousandths-parts part whole rest some is =
    let n = 1000 * (part / whole) + rest in
    let units = mul-add-div {m = 1000} (omega arith) (part / whole) rest in
    let digits = mul-add-mod_self_left 1000 (part / whole) rest in
    some-text part whole some
    ∙ ap decimal_text (nearest-parts part whole some ∙ ap (λ k. 1000 * (part / whole) + k) (sym is))
    ∙ ap (λ k. decimal k ++ (codes "." ++ three_digits (n % 1000))) units
    ∙ ap (λ k. decimal (part / whole + rest / 1000) ++ (codes "." ++ three_digits k)) digits

-- no farther from the ratio than half a thousandth
pub nearest-above : (part whole : ℕ) → 2 * whole * nearest part whole ≤ 2000 * part + whole
unfolding nearest
nearest-above part whole = mul-div-le (2000 * part + whole) (2 * whole)

pub nearest-below : (part whole : ℕ) → 0 < whole → 2000 * part + whole < 2 * whole * nearest part whole + 2 * whole
unfolding nearest
nearest-below part whole some =
    let n = (2000 * part + whole) / (2 * whole) in
    let two : 0 < 2 * whole = omega arith in
    let h : 2000 * part + whole < n * (2 * whole) + 2 * whole = lt-div-mul-add two in
    rw (mul_comm (2 * whole) n) h
