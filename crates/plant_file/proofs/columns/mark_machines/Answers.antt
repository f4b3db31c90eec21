use Rattle.std.proofs.Common.{refl, subst}
use Rattle.plant_file.specs.Columns.{AddsMarks}
use Rattle.plant_file.specs.Draft.{uses, DraftMachine}
use Rattle.plant_file.proofs.MarkSteps.{marks_more, marks_all}
use Rattle.plant_file.proofs.columns.mark_machines.Goals as goal

pub loop-machine-init : goal.loop-machine-init
loop-machine-init c = record { same_length = refl; marked = λ column below. refl }

pub loop-machine-preserved : goal.loop-machine-preserved
loop-machine-preserved c =
    marks_more (λ (m : DraftMachine) column. uses column m.times) c.args.machines.now c.loop-machine.machine-index c.machine-item.result _ _ _
    c.loop-machine-test.true c.loop-machine.invariant
    (subst (λ (m : DraftMachine). AddsMarks c.loop-machine.marks.items c.mark.new.marks.items (λ column. uses column m.times)) c.machine-item.is c.mark.ensures)

pub returns : goal.returns
returns c =
    marks_all (λ (m : DraftMachine) column. uses column m.times) c.args.machines.now c.loop-machine.machine-index _ _
    c.loop-machine-test.false c.loop-machine.invariant
