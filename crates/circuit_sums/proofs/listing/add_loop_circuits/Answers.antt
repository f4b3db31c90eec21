use Rattle.std.proofs.Common.{◌∙◌, ◌<◌, length, ap, arith}
use Rattle.plant_model.specs.Line.{no_loop}
use Rattle.plant_model.proofs.SoundPlants.{IsSoundLoop-sound}
use Rattle.circuit_sums.specs.Circuits.{loop_circuit}
use Rattle.circuit_sums.proofs.Listings.{added-more, loop_circuit-made}
use Rattle.circuit_sums.proofs.listing.add_loop_circuits.Goals as goal

pub circuit_arcs-requires-clause-exists : goal.circuit_arcs-requires-clause-exists
circuit_arcs-requires-clause-exists c =
    let p = c.args.layout.now in
    let loops = c.loops-card_loop-items.ensures in
    let below : c.loop-number.number < length p.loops = omega (arith, ap length loops) in
    rw loops (IsSoundLoop-sound p c.loop-number.number no_loop c.requires.sound below).first_exists

pub loop-number-preserved : goal.loop-number-preserved
loop-number-preserved c =
    let p = c.args.layout.now in
    let k = c.loop-number.number in
    let made = loop_circuit-made p k c.args.first_arc _ _ c.loops-card_loop-items.ensures c.in_ok-circuit_arcs.ensures in
    c.in_ok-push.ensures.items ∙ added-more (loop_circuit p c.args.first_arc) k c.args.list.now.items c.loop-number.list.items _ c.loop-number.invariant made
