-- The steps of an axis, one after the other.
use Rattle.std.proofs.Common.{◌≡◌, ℕ, suc, ◌+◌, ◌*◌, ◌/◌, ◌^◌, ◌<◌, ◌≤◌, cond, leb, ap, ◌∙◌, arith}
use Rattle.std.proofs.Math.Nat.{pow-le-pow_right, pow-suc}
use Rattle.std.proofs.lemmas.Bool.{le-leb, lt-leb}
use Rattle.line_chart.specs.Axis.{step_from}

module _ (more ten span : ℕ) where
  abbrev Last : ℕ
  Last = cond (leb (span / (5 * ten)) 10) (5 * ten) (step_from more (10 * ten) span)

  abbrev Later : ℕ
  Later = cond (leb (span / (2 * ten)) 10) (2 * ten) Last

  pub step-one : span / ten ≤ 10 → step_from (suc more) ten span ≡ ten
  unfolding step_from
  step-one fits = ap (λ b. cond b ten Later) (le-leb (span / ten) 10 fits)

  pub step-two : 10 < span / ten → span / (2 * ten) ≤ 10 → step_from (suc more) ten span ≡ 2 * ten
  unfolding step_from
  step-two one fits =
      ap (λ b. cond b ten Later) (lt-leb (span / ten) 10 one) ∙ ap (λ b. cond b (2 * ten) Last) (le-leb (span / (2 * ten)) 10 fits)

  pub step-five : 10 < span / ten → 10 < span / (2 * ten) → span / (5 * ten) ≤ 10 → step_from (suc more) ten span ≡ 5 * ten
  unfolding step_from
  step-five one two fits =
      ap (λ b. cond b ten Later) (lt-leb (span / ten) 10 one)
      ∙ ap (λ b. cond b (2 * ten) Last) (lt-leb (span / (2 * ten)) 10 two)
      ∙ ap (λ b. cond b (5 * ten) (step_from more (10 * ten) span)) (le-leb (span / (5 * ten)) 10 fits)

  pub step-next : 10 < span / ten → 10 < span / (2 * ten) → 10 < span / (5 * ten) → step_from (suc more) ten span ≡ step_from more (10 * ten) span
  unfolding step_from
  step-next one two five =
      ap (λ b. cond b ten Later) (lt-leb (span / ten) 10 one)
      ∙ ap (λ b. cond b (2 * ten) Last) (lt-leb (span / (2 * ten)) 10 two)
      ∙ ap (λ b. cond b (5 * ten) (step_from more (10 * ten) span)) (lt-leb (span / (5 * ten)) 10 five)

-- a power of ten before the last is small
pub small-ten : (p ten : ℕ) → p < 16 → ten ≤ 10 ^ p → ten ≤ 1_000_000_000_000_000
small-ten p ten below le =
    let some : 0 < 10 = omega arith in
    let last : p ≤ 15 = omega arith in
    let up : 10 ^ p ≤ 10 ^ 15 = pow-le-pow_right some last in
    omega (arith, up)

pub next-ten : (p ten : ℕ) → ten ≤ 10 ^ p → 10 * ten ≤ 10 ^ (p + 1)
next-ten p ten le =
    let e : suc p ≡ p + 1 = omega arith in
    let next = pow-suc 10 p in
    let same = ap (λ k. 10 ^ k) e in
    omega (arith, le, next, same)
