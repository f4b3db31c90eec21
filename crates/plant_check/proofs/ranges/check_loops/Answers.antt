use Rattle.std.proofs.Common.{refl, arith}
use Rattle.plant_model.specs.Refusals.{loop_out_of_range}
use Rattle.plant_model.proofs.Passes.{stops_read}
use Rattle.plant_check.proofs.PassedElements.{passed_none, passed_more_read, passed_all}
use Rattle.plant_check.proofs.ranges.check_loops.Goals as goal

pub loop-k-init : goal.loop-k-init
loop-k-init c = passed_none _ _

pub returns-in_err-check_loop : goal.returns-in_err-check_loop
returns-in_err-check_loop c =
    stops_read loop_out_of_range c.args.loops.now c.args.loops.now c.loop-k.k _ c.from_residual.result
    c.from_residual.ensures.1 c.loop-k.invariant refl (omega arith) c.in_err-check_loop.ensures

pub loop-k-preserved : goal.loop-k-preserved
loop-k-preserved c =
    passed_more_read loop_out_of_range c.args.loops.now c.loop-k.k _ c.loop-k.invariant (omega arith)
    c.in_ok-check_loop.ensures

pub returns : goal.returns
returns c = passed_all loop_out_of_range c.args.loops.now c.loop-k.k c.loop-k.invariant (omega arith)
