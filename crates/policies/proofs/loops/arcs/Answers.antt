use Rattle.std.proofs.Common.{ap, length, arith}
use Rattle.plant_model.proofs.SoundPlants.{IsSoundLoop-sound}
use Rattle.plant_model.proofs.LayoutPaths.{is_downstream-exists}
use Rattle.policies.proofs.loops.arcs.Goals as goal

pub loop_arc-requires-clause-sound : goal.loop_arc-requires-clause-sound
loop_arc-requires-clause-sound c =
    let p = c.args.plant.now in
    let loops = c.as_slice-card_loop-items.ensures in
    rw (c.in_ok-layout.ensures, loops)
    (IsSoundLoop-sound p c.loop-card_loop.card_loop-index _ c.requires (omega (arith, ap length loops)))

pub loop_arc-requires-clause-last : goal.loop_arc-requires-clause-last
loop_arc-requires-clause-last c =
    let p = c.args.plant.now in
    let loops = c.as_slice-card_loop-items.ensures in
    let sound = IsSoundLoop-sound p c.loop-card_loop.card_loop-index _ c.requires (omega (arith, ap length loops)) in
    rw (c.in_ok-layout.ensures, loops) (is_downstream-exists p _ _ c.requires sound.first_exists sound.goes_downstream)
