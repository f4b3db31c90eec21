use Rattle.plant_model.proofs.LayoutFacts.{NumberedTo}
use Rattle.plant_model.proofs.numbers.LineNumbers.of.Given as goal

abbrev pub invariant-loop-stage : goal.invariant-loop-stage
invariant-loop-stage l = NumberedTo l.plant l.stage-index l.station l.arc l.releases.items l.entries.items
