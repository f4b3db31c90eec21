use Rattle.std.proofs.Common.{◌∙◌, ◌+◌, ◌*◌, ap, arith}
use Rattle.plant_model.proofs.LayoutFacts.{few_stages}
use Rattle.plant_model.specs.ArcNumbers.{extended_arc}
use Rattle.circuit_sums.specs.Circuits.{stage_circuit}
use Rattle.circuit_sums.proofs.Listings.{listed-more, small_policy_arc}
use Rattle.circuit_sums.proofs.listing.extended_circuits.Goals as goal

pub overflow_mul-card_arc : goal.overflow_mul-card_arc
overflow_mul-card_arc c = omega (arith, few_stages c.args.layout.now c.requires)

pub overflow_add-card_arc : goal.overflow_add-card_arc
overflow_add-card_arc c = omega (arith, small_policy_arc c.args.layout.now c.requires, few_stages c.args.layout.now c.requires)

pub overflow_add-card_arc-in-loop-stage : goal.overflow_add-card_arc-in-loop-stage
overflow_add-card_arc-in-loop-stage c =
    omega (arith, small_policy_arc c.args.layout.now c.requires, few_stages c.args.layout.now c.requires)

pub loop-stage-preserved : goal.loop-stage-preserved
loop-stage-preserved c =
    let p = c.args.layout.now in
    let i = c.loop-stage.stage in
    let made = c.in_ok-stage_circuit.ensures ∙ ap (λ first. stage_circuit p (λ _. first + 2 * i + 1) i) c.policy_arc.ensures in
    c.in_ok-push.ensures.items ∙ listed-more (stage_circuit p (extended_arc p)) i c.loop-stage.list.items _ c.loop-stage.invariant made
