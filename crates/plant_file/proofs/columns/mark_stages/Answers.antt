use Rattle.std.proofs.Common.{refl, subst}
use Rattle.plant_file.specs.Columns.{is_used_by, AddsMarks}
use Rattle.plant_file.specs.Draft.{DraftStage}
use Rattle.plant_file.proofs.MarkSteps.{marks_more, marks_all}
use Rattle.plant_file.proofs.columns.mark_stages.Goals as goal

pub loop-stage-init : goal.loop-stage-init
loop-stage-init c = record { same_length = refl; marked = λ column below. refl }

pub loop-stage-preserved : goal.loop-stage-preserved
loop-stage-preserved c =
    marks_more (λ (s : DraftStage) column. is_used_by s.machines column) c.args.stages.now c.loop-stage.stage-index c.stage-item.result _ _ _
    c.loop-stage-test.true c.loop-stage.invariant
    (subst (λ (s : DraftStage). AddsMarks c.loop-stage.marks.items c.mark_machines.new.marks.items (is_used_by s.machines)) c.stage-item.is
    (rw c.as_slice.ensures at c.mark_machines.ensures))

pub returns : goal.returns
returns c =
    marks_all (λ (s : DraftStage) column. is_used_by s.machines column) c.args.stages.now c.loop-stage.stage-index _ _
    c.loop-stage-test.false c.loop-stage.invariant
