use Rattle.std.proofs.Common.{◌≡◌, length, ap, ◌∙◌, arith}
use Rattle.std.specs.List.{flat_map, range_with_len}
use Rattle.plant_model.proofs.LayoutFacts.{few_stages}
use Rattle.line_chart.specs.Bars.{lanes_of_stages, lane_count, machines, stage_machines}
use Rattle.line_chart.proofs.LaneFacts.{machines-more, small_count}
use Rattle.line_chart.proofs.machines.all_lanes.Goals as goal

pub overflow_cast-stage : goal.overflow_cast-stage
overflow_cast-stage c = omega (arith, few_stages c.args.plant.now c.requires.sound)

pub loop-stage-preserved : goal.loop-stage-preserved
loop-stage-preserved c = (
  machines-more c.args.plant.now c.loop-stage.stage c.loop-stage.list.items _ c.loop-stage.invariant.0 c.in_ok-next.ensures.added,
  c.in_ok-next.ensures.next,
  c.in_ok-next.ensures.few,
)

pub returns-clause-machines : goal.returns-clause-machines
unfolding machines
returns-clause-machines c =
    let all : c.loop-stage.stage ≡ length c.args.plant.now.stages = omega arith in
    c.loop-stage.invariant.0 ∙ ap (λ n. flat_map (stage_machines c.args.plant.now) (range_with_len 0 n)) all

pub returns-clause-lanes : goal.returns-clause-lanes
unfolding lane_count
returns-clause-lanes c =
    let all : c.loop-stage.stage ≡ length c.args.plant.now.stages = omega arith in
    c.loop-stage.invariant.1 ∙ ap (lanes_of_stages c.args.plant.now) all

pub returns-clause-small : goal.returns-clause-small
returns-clause-small c =
    let all : c.loop-stage.stage ≡ length c.args.plant.now.stages = omega arith in
    let last = c.loop-stage.invariant.1 ∙ ap (lanes_of_stages c.args.plant.now) all in
    omega (arith, last, small_count c.args.plant.now c.requires.sound)
