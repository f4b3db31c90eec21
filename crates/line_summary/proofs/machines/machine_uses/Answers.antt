use Rattle.std.proofs.Common.{◌≡◌, ◌++◌, length, sym, ap, ◌∙◌, arith}
use Rattle.std.specs.List.{flat_map, range_with_len}
use Rattle.line_base.proofs.RangeLists.{flat_map-range_more}
use Rattle.line_summary.specs.Machines.{stage_uses, machine_uses}
use Rattle.line_summary.proofs.machines.machine_uses.Goals as goal

pub loop-stage-preserved : goal.loop-stage-preserved
loop-stage-preserved c =
    let p = c.args.plant.now in
    c.in_ok-add_stage_uses.ensures ∙ ap (λ l. l ++ stage_uses p c.loop-stage.stage) c.loop-stage.invariant ∙ sym (flat_map-range_more (stage_uses p) c.loop-stage.stage)

pub returns : goal.returns
unfolding machine_uses
returns c =
    let p = c.args.plant.now in
    let all : c.loop-stage.stage ≡ length p.stages = omega arith in
    c.loop-stage.invariant ∙ ap (λ n. flat_map (stage_uses p) (range_with_len 0 n)) all
