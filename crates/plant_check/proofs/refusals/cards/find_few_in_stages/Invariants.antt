use Rattle.plant_model.specs.Refusals.{too_few_in_stage}
use Rattle.plant_check.proofs.CollectedRefusals.{Collected}
use Rattle.plant_check.proofs.refusals.cards.find_few_in_stages.Given as goal

abbrev pub invariant-loop-i : goal.invariant-loop-i
invariant-loop-i l = Collected too_few_in_stage l.stages l.i l.initial.refusals.items l.refusals.items
