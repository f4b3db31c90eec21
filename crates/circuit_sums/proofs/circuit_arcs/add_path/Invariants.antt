use Rattle.plant_model.proofs.Paths.{stages_left}
use Rattle.circuit_sums.proofs.ArcPlaces.{WalksOn}
use Rattle.circuit_sums.proofs.circuit_arcs.add_path.Given as goal

abbrev pub invariant-loop-next : goal.invariant-loop-next
invariant-loop-next l = WalksOn l.layout l.first l.last l.initial.arcs.items l.arcs.items l.next

abbrev pub decreases-loop-next : goal.decreases-loop-next
decreases-loop-next l = stages_left l.layout l.next
