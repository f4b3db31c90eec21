-- How many digits a number has.
use Rattle.std.proofs.Common.{◌≡◌, ℕ, ◌+◌, ◌/◌, ◌^◌, ◌<◌, ◌≤◌, length, decimal, ap, ◌∙◌, length-append, arith}
use Rattle.std.proofs.lemmas.Fmt.{decimal_digit, decimal_step}

-- below ten one
pub length_one : (n : ℕ) → n < 10 → length (decimal n) ≡ 1
length_one n h = ap length (decimal_digit n h)

-- from ten on one more than a tenth of it has
pub length_step : (n : ℕ) → 10 ≤ n → n < 2 ^ 64 → length (decimal n) ≡ length (decimal (n / 10)) + 1
length_step n low high = ap length (decimal_step n low high) ∙ length-append _ _

-- below a hundred two
pub length_two : (n : ℕ) → 10 ≤ n → n < 100 → length (decimal n) ≡ 2
length_two n low high = omega (arith, length_step n low (omega arith), length_one (n / 10) (omega arith))

-- below a thousand three
pub length_three : (n : ℕ) → 100 ≤ n → n < 1000 → length (decimal n) ≡ 3
length_three n low high = omega (arith, length_step n (omega arith) (omega arith), length_two (n / 10) (omega arith) (omega arith))

-- below ten thousand four
pub length_four : (n : ℕ) → 1000 ≤ n → n < 10000 → length (decimal n) ≡ 4
length_four n low high = omega (arith, length_step n (omega arith) (omega arith), length_three (n / 10) (omega arith) (omega arith))

-- from ten thousand on four more than a ten thousandth of it has
pub length_four_more : (n : ℕ) → 10000 ≤ n → n < 2 ^ 64 → length (decimal n) ≡ length (decimal (n / 10000)) + 4
length_four_more n low high =
    let same : n / 10 / 10 / 10 / 10 ≡ n / 10000 = omega arith in
    let a = length_step n (omega arith) high in
    let b = length_step (n / 10) (omega arith) (omega arith) in
    let c = length_step (n / 10 / 10) (omega arith) (omega arith) in
    let d = rw same at (length_step (n / 10 / 10 / 10) (omega arith) (omega arith)) in
    omega arith
