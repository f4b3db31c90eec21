use Rattle.std.proofs.Common.{length, refl, ap, ◌∙◌, arith}
use Rattle.plant_model.specs.Stages.{Stage}
use Rattle.plant_model.proofs.SoundPlants.{IsSoundStage-sound}
use Rattle.plant_model.proofs.LayoutFacts.{small_last_machine}
use Rattle.line_graph.proofs.Joined.{machine_more}
use Rattle.line_graph.proofs.rows.add_stage_rows.Goals as goal

pub machine-requires-clause-machine : goal.machine-requires-clause-machine
machine-requires-clause-machine c =
    (IsSoundStage-sound c.args.layout.now c.args.stage c.requires.sound c.requires.exists).some_machine

pub overflow_cast-number : goal.overflow_cast-number
overflow_cast-number c =
    let p = c.args.layout.now in
    let machines = ap (λ (s : Stage). length s.machines) c.stage.ensures in
    omega (arith, small_last_machine p c.args.stage c.requires.sound c.requires.exists)

pub loop-number-preserved : goal.loop-number-preserved
loop-number-preserved c =
    let p = c.args.layout.now in
    let more = c.in_ok-add_machine_rows.ensures in
    record {
      arcs = more.arcs ∙ machine_more (λ r. r.arc) p c.args.stage c.loop-number.number c.args.all.now.arcs.items _ _ _ c.loop-number.invariant.arcs refl;
      delays = more.delays ∙ machine_more (λ r. r.delay) p c.args.stage c.loop-number.number c.args.all.now.delays.items _ _ _ c.loop-number.invariant.delays refl;
    }
