use Rattle.std.proofs.Common.{◌≡◌, drop}
use Rattle.std.specs.List.{find}
use Rattle.line_core.specs.Refusals.{is_empty}
use Rattle.line_core.proofs.Runs.{state_in}
use Rattle.line_core.proofs.dates.first_empty.Given as goal

abbrev pub invariant-loop-a : goal.invariant-loop-a
invariant-loop-a l =
    find (is_empty (state_in l.graph l.logs)) (drop l.a-index l.ins) ≡ find (is_empty (state_in l.graph l.logs)) l.ins
