use Rattle.plant_model.proofs.Paths.{WalksTo, stages_left}
use Rattle.plant_model.proofs.line.stock_up_to.Given as goal

abbrev pub invariant-loop-next : goal.invariant-loop-next
invariant-loop-next l = WalksTo l.plant l.from l.to l.stock l.next

abbrev pub decreases-loop-next : goal.decreases-loop-next
decreases-loop-next l = stages_left l.plant l.next
