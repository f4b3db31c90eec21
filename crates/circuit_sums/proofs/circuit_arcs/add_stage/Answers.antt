use Rattle.std.proofs.Common.{◌+◌, ◌*◌, ◌≤◌, length, ap, arith}
use Rattle.plant_model.specs.Stages.{Stage}
use Rattle.plant_model.proofs.LayoutFacts.{small_entry}
use Rattle.circuit_sums.proofs.ArcPlaces.{onward-more}
use Rattle.circuit_sums.proofs.circuit_arcs.add_stage.Goals.{After-len-machines}
use Rattle.circuit_sums.proofs.circuit_arcs.add_stage.Goals as goal

small : (c : After-len-machines) → c.entry_arc-entry.result + 1 + 3 * c.len-machines.result ≤ 1536
small c =
    let machines = ap (λ (s : Stage). length s.machines) c.stage.ensures in
    omega (arith, c.entry_arc-entry.ensures, c.len-machines.ensures, small_entry c.args.layout.now c.args.stage c.requires.sound c.requires.exists)

pub overflow_cast-machines : goal.overflow_cast-machines
overflow_cast-machines c = omega (arith, small (goal.at.overflow_cast-machines c).After-len-machines)

pub overflow_add-step-end : goal.overflow_add-step-end
overflow_add-step-end c = omega (arith, small (goal.at.overflow_add-step-end c).After-len-machines)

pub overflow_mul-step : goal.overflow_mul-step
overflow_mul-step c = omega (arith, small (goal.at.overflow_mul-step c).After-len-machines)

pub overflow_add-entry : goal.overflow_add-entry
overflow_add-entry c = omega (arith, small (goal.at.overflow_add-entry c).After-len-machines)

pub loop-step-preserved : goal.loop-step-preserved
loop-step-preserved c =
    onward-more c.args.layout.now c.args.stage c.loop-step.step _ c.args.arcs.now.items _ _ c.loop-step.invariant
    c.entry_arc-entry.ensures c.in_ok-push.ensures.items
