use Rattle.plant_file.proofs.MarkSteps.{MarksRest}
use Rattle.plant_file.specs.Columns.{is_used_by}
use Rattle.plant_file.specs.Draft.{DraftStage}
use Rattle.plant_file.proofs.columns.mark_stages.Given as goal

abbrev pub invariant-loop-stage : goal.invariant-loop-stage
invariant-loop-stage l =
    MarksRest (λ (s : DraftStage) c. is_used_by s.machines c) l.stages l.stage-index l.initial.marks.items l.marks.items
