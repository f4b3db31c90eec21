use Rattle.plant_model.specs.Refusals.{falling_date}
use Rattle.plant_check.proofs.CollectedRefusals.{Collected}
use Rattle.plant_check.proofs.refusals.whole.find_falls.Given as goal

abbrev pub invariant-loop-k : goal.invariant-loop-k
invariant-loop-k l = Collected (falling_date l.dates) l.dates l.k l.initial.refusals.items l.refusals.items
