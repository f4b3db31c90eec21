use Rattle.std.proofs.Common.{◌∙◌, ◌-◌, ◌<◌, length, sym, ap, arith}
use Rattle.plant_model.specs.Line.{is_first}
use Rattle.plant_model.proofs.LayoutFacts.{few_stages}
use Rattle.circuit_sums.specs.Circuits.{line_circuit}
use Rattle.circuit_sums.proofs.Listings.{passing-more, failing-more, conwip_arc-passing, conwip_arc-failing, small_conwip_arc, line_circuit-made}
use Rattle.circuit_sums.proofs.listing.conwip_circuits.Goals.{then-is_first+in_ok-circuit_arcs+in_ok-push, else-is_first}
use Rattle.circuit_sums.proofs.listing.conwip_circuits.Goals as goal

pub overflow_sub-final_stage : goal.overflow_sub-final_stage
overflow_sub-final_stage c = omega (arith, (few_stages c.args.layout.now c.requires).0)

pub overflow_add-card_arc : goal.overflow_add-card_arc
overflow_add-card_arc c = omega (arith, c.loop-stage.invariant.0, small_conwip_arc c.args.layout.now c.loop-stage.stage c.requires (omega arith))

pub loop-stage-preserved : goal.loop-stage-preserved
loop-stage-preserved c =
    let p = c.args.layout.now in
    let i = c.loop-stage.stage in
    let below : i < length p.stages = omega arith in
    elim c.if-is_first.branch [
      | then-is_first+in_ok-circuit_arcs+in_ok-push w ↦
          let passes = sym c.is_first.ensures ∙ w.if-is_first.true in
          let last = ap (λ n. n - 1) c.stages-final_stage.ensures in
          let made = line_circuit-made p c.args.cards i _ c.loop-stage.card_arc _ c.requires below last c.loop-stage.invariant.0 w.in_ok-circuit_arcs.ensures in
          let list = w.in_ok-push.ensures.items ∙ passing-more (line_circuit p c.args.cards) (is_first p) i c.loop-stage.list.items _ c.loop-stage.invariant.1 passes made in
          (w.card_arc-is ∙ conwip_arc-passing p i c.loop-stage.card_arc c.loop-stage.invariant.0 passes, rw w.list-is list)
      | else-is_first w ↦
          let fails = sym c.is_first.ensures ∙ w.if-is_first.false in
          let list = failing-more (line_circuit p c.args.cards) (is_first p) i c.loop-stage.list.items c.loop-stage.invariant.1 fails in
          (w.card_arc-is ∙ conwip_arc-failing p i c.loop-stage.card_arc c.loop-stage.invariant.0 fails, rw w.list-is list)
    ]
