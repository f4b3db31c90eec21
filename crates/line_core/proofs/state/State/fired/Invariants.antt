use Rattle.std.proofs.Common.{◌≡◌, ◌+◌, drop, length}
use Rattle.std.specs.List.{sum_by}
use Rattle.line_base.specs.Roomy.{dates_of}
use Rattle.line_core.proofs.state.State.fired.Given as goal

abbrev pub invariant-loop-t : goal.invariant-loop-t
invariant-loop-t l =
    l.fired + sum_by length (drop l.t (dates_of l.self-inside.logs)) ≡ sum_by length (dates_of l.self-inside.logs)
