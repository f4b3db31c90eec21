use Rattle.plant_file.proofs.MarkSteps.{MarksRest}
use Rattle.plant_file.specs.Draft.{uses}
use Rattle.plant_file.specs.Draft.{DraftMachine}
use Rattle.plant_file.proofs.columns.mark_machines.Given as goal

abbrev pub invariant-loop-machine : goal.invariant-loop-machine
invariant-loop-machine l =
    MarksRest (λ (m : DraftMachine) c. uses c m.times) l.machines l.machine-index l.initial.marks.items l.marks.items
