use Rattle.std.proofs.Common.{arith, rules}
use Rattle.std.proofs.lemmas.Int.{ints, to_z-of_z}
use Rattle.cycle_time.proofs.acceptance.is_covered.Goals as goal

pub overflow_add-result : goal.overflow_add-result
overflow_add-result c = omega (arith, ints, c.requires.start_low, c.requires.start_high, c.requires.weight_low, c.requires.weight_high)

pub returns : goal.returns
returns c =
    let read = to_z-of_z _ in
    rw (read _ (overflow_add-result c), read c.args.start c.ranges.start, read c.args.weight c.ranges.weight, read c.args.end c.ranges.end) (search rules)
