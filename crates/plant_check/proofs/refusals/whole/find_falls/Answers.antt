use Rattle.std.proofs.Common.{arith}
use Rattle.plant_model.specs.Refusals.{falling_date}
use Rattle.plant_check.proofs.CollectedRefusals.{collected_none, collects_read, collected_all}
use Rattle.plant_check.proofs.refusals.whole.find_falls.Goals as goal

pub loop-k-init : goal.loop-k-init
loop-k-init c = collected_none _ _ _

pub loop-k-preserved : goal.loop-k-preserved
loop-k-preserved c =
    collects_read (falling_date c.args.dates.now) c.args.dates.now c.loop-k.k _ _ _ _ c.loop-k.invariant (omega arith)
    c.in_ok-find_fall.ensures

pub returns : goal.returns
returns c = collected_all (falling_date c.args.dates.now) c.args.dates.now c.loop-k.k _ _ c.loop-k.invariant (omega arith)
