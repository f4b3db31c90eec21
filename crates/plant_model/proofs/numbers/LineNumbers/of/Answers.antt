use Rattle.std.proofs.Common.{◌≡◌, ◌+◌, ◌*◌, ◌<◌, ◌≤◌, length, ap, sym, subst, arith}
use Rattle.plant_model.specs.Line.{release}
use Rattle.plant_model.specs.ArcNumbers.{entry_arc}
use Rattle.plant_model.specs.Layout.{IsLaidOut}
use Rattle.plant_model.proofs.Soundness.{IsSound-Parts}
use Rattle.plant_model.proofs.LayoutFacts.{few_stages, NumberedTo-next, NumberedTo-more, NumberedTo-all}
use Rattle.plant_model.proofs.numbers.LineNumbers.of.Goals.{After-len-machines}
use Rattle.plant_model.proofs.numbers.LineNumbers.of.Goals as goal

next : (c : After-len-machines) → (c.loop-stage.station + (1 + c.len-machines.result) ≡ release c.args.plant.now (c.loop-stage.stage-index + 1)) × (c.loop-stage.station + (1 + c.len-machines.result) < 512) × (c.loop-stage.arc + (1 + 3 * c.len-machines.result) ≡ entry_arc c.args.plant.now (c.loop-stage.stage-index + 1)) × (c.loop-stage.arc + (1 + 3 * c.len-machines.result) ≤ 1536)
next c =
    let stages = c.as_slice-stage-items.ensures in
    NumberedTo-next c.args.plant.now c.loop-stage.stage-index c.loop-stage.station c.loop-stage.arc c.len-machines.result
    c.loop-stage.releases.items c.loop-stage.entries.items c.stage-item.result c.stage-item.result c.requires c.loop-stage.invariant
    (omega (arith, ap length stages)) (rw stages at c.stage-item.is) c.len-machines.ensures

pub overflow_add-len : goal.overflow_add-len
overflow_add-len c = omega (arith, few_stages _ c.requires)

pub overflow_cast-machines : goal.overflow_cast-machines
overflow_cast-machines c = omega (arith, (next (goal.at.overflow_cast-machines c).After-len-machines).1)

pub overflow_add-station : goal.overflow_add-station
overflow_add-station c = omega (arith, (next (goal.at.overflow_add-station c).After-len-machines).1)

pub overflow_add-station-in-loop-stage : goal.overflow_add-station-in-loop-stage
overflow_add-station-in-loop-stage c = omega (arith, (next (goal.at.overflow_add-station-in-loop-stage c).After-len-machines).1)

pub overflow_mul-arc : goal.overflow_mul-arc
overflow_mul-arc c = let h = next (goal.at.overflow_mul-arc c).After-len-machines in omega (arith, h.3)

pub overflow_add-arc : goal.overflow_add-arc
overflow_add-arc c = let h = next (goal.at.overflow_add-arc c).After-len-machines in omega (arith, h.3)

pub overflow_add-arc-in-loop-stage : goal.overflow_add-arc-in-loop-stage
overflow_add-arc-in-loop-stage c =
    let h = next (goal.at.overflow_add-arc-in-loop-stage c).After-len-machines in omega (arith, h.3)

pub loop-stage-preserved : goal.loop-stage-preserved
loop-stage-preserved c =
    let h = next (goal.at.loop-stage-preserved c).After-len-machines in
    NumberedTo-more c.args.plant.now c.loop-stage.stage-index c.loop-stage.station c.loop-stage.arc _ _
    c.loop-stage.releases.items c.loop-stage.entries.items _ _ c.loop-stage.invariant h.0 h.2
    c.in_ok-push.ensures.items c.in_ok-push-2.ensures.items

pub fed_marks-requires : goal.fed_marks-requires
fed_marks-requires c = (IsSound-Parts c.requires).later

pub invariant_of-result : goal.invariant_of-result
invariant_of-result c =
    let p = c.args.plant.now in
    let stages = ap length c.as_slice-stage-items.ensures in
    let at_end : c.loop-stage.stage-index ≡ length p.stages = omega arith in
    let lists = NumberedTo-all p c.loop-stage.stage-index c.loop-stage.station c.loop-stage.arc c.loop-stage.releases.items
    c.loop-stage.entries.items _ _ c.loop-stage.invariant at_end c.in_ok-push-3.ensures.items c.in_ok-push-4.ensures.items
    in
    subst (λ q. IsLaidOut q c.push-2.new.self.items c.push-3.new.self.items c.in_ok-fed_marks.field-0.items) (sym c.of.ensures)
    (record { sound = c.requires; all_stations = lists.0; all_arcs = lists.1; marks = c.in_ok-fed_marks.ensures })
