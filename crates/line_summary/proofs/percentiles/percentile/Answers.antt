use Rattle.std.proofs.Common.{◌≡◌, ℕ, ◌+◌, ◌-◌, ◌*◌, ◌/◌, ◌%◌, ◌<◌, ◌≤◌, min, get_or, length, arith}
use Rattle.std.proofs.Math.Nat.{mul-le-mul, mul-le-mul_right}
use Rattle.line_stats.proofs.DateLists.{count-above, count-le}
use Rattle.line_summary.proofs.percentiles.percentile.Goals as goal

-- how many numbers are this share of a list, rounded up
count-rounded : (product count : ℕ) → count ≡ product / 100 + min 1 (product % 100) → 1 ≤ product → (1 ≤ count) × (product ≤ 100 * count) × (100 * (count - 1) < product)
count-rounded product count is some = (omega arith, omega arith, omega arith)

pub returns : goal.returns
returns c =
    let sorted = c.args.sorted.now in
    let n = length sorted in
    let count = c.div_ceil-count.result in
    let here = get_or sorted (count - 1) 0 in
    let some : 1 ≤ c.args.percent * n = mul-le-mul c.requires.percent c.requires.some in
    let few : c.args.percent * n ≤ 100 * n = mul-le-mul_right n c.requires.whole in
    let rounded = count-rounded (c.args.percent * n) count c.div_ceil-count.ensures some in
    let inside : count - 1 < n = omega (arith, rounded.0, rounded.2) in
    let above = count-above sorted (count - 1) here c.requires.in_order inside (omega arith) in
    record {
      enough = omega (arith, above, rounded.0, rounded.1);
      least = λ v below. omega (arith, count-le sorted (count - 1) v c.requires.in_order inside below, rounded.0, rounded.2);
    }
