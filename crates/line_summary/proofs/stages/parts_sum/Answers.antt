use Rattle.std.proofs.Common.{◌≡◌, length, ap, ◌∙◌, arith}
use Rattle.std.specs.List.{sum_by, range_with_len}
use Rattle.plant_model.proofs.LayoutFacts.{few_stages}
use Rattle.event_graph.specs.Table.{date_in}
use Rattle.line_stats.proofs.DateSums.{sum_by-range-more}
use Rattle.line_summary.specs.OverTime.{stage_sum, parts_sum}
use Rattle.line_summary.proofs.stages.parts_sum.Goals as goal

pub overflow_add-parts : goal.overflow_add-parts
overflow_add-parts c =
    let few = few_stages c.args.plant.now c.requires.line.sound in
    omega arith

pub loop-stage-preserved : goal.loop-stage-preserved
loop-stage-preserved c =
    let more = sum_by-range-more (stage_sum c.args.plant.now (date_in c.args.table.now.rows)) c.loop-stage.stage in
    let so_far = c.loop-stage.invariant.sum in
    let small = c.loop-stage.invariant.small in
    record { sum = omega arith; small = omega arith }

pub returns : goal.returns
unfolding parts_sum
returns c =
    let p = c.args.plant.now in
    let all : c.loop-stage.stage ≡ length p.stages = omega arith in
    c.loop-stage.invariant.sum ∙ ap (λ n. sum_by (stage_sum p (date_in c.args.table.now.rows)) (range_with_len 0 n)) all
