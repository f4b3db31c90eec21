use Rattle.plant_model.specs.Refusals.{too_few_in_line}
use Rattle.plant_check.proofs.CollectedRefusals.{Collected}
use Rattle.plant_check.proofs.refusals.cards.find_few_in_line.Given as goal

abbrev pub invariant-loop-i : goal.invariant-loop-i
invariant-loop-i l = Collected (too_few_in_line l.paths l.cards) l.stages l.i l.initial.refusals.items l.refusals.items
