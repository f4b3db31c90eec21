use Rattle.std.proofs.Common.{◌*◌}
use Rattle.what_if.specs.Marks.{bits_of, HasNone}
use Rattle.what_if.proofs.marks.first_bit_of_rest.Given as goal

abbrev pub invariant-loop-k : goal.invariant-loop-k
invariant-loop-k l = HasNone (bits_of l.words) l.from (64 * l.k)
