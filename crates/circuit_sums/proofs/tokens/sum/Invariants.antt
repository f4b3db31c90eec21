use Rattle.std.proofs.Common.{◌≡◌, ◌-◌, ◌*◌, ◌^◌, ◌≤◌, take, sum_by, slice_index}
use Rattle.circuit_sums.proofs.tokens.sum.Given as goal

abbrev pub invariant-loop-arc : goal.invariant-loop-arc
invariant-loop-arc l =
    (l.tokens ≡ sum_by (slice_index l.marking) (take l.arc-index l.arcs)) × (l.tokens ≤ l.arc-index * (2 ^ 32 - 1))
