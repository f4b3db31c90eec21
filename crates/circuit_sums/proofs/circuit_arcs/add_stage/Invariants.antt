use Rattle.std.proofs.Common.{◌≡◌, ◌++◌}
use Rattle.circuit_sums.proofs.ArcPlaces.{onward_front}
use Rattle.circuit_sums.proofs.circuit_arcs.add_stage.Given as goal

abbrev pub invariant-loop-step : goal.invariant-loop-step
invariant-loop-step l = l.arcs.items ≡ l.initial.arcs.items ++ onward_front l.layout l.stage l.step
