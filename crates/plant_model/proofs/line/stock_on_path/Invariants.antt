use Rattle.plant_model.proofs.Paths.{WalksPath, stages_left}
use Rattle.plant_model.proofs.line.stock_on_path.Given as goal

abbrev pub invariant-loop-next : goal.invariant-loop-next
invariant-loop-next l = WalksPath l.plant l.from l.stock l.next

abbrev pub decreases-loop-next : goal.decreases-loop-next
decreases-loop-next l = stages_left l.plant l.next
