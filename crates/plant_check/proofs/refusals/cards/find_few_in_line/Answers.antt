use Rattle.std.proofs.Common.{arith}
use Rattle.plant_model.specs.Refusals.{too_few_in_line}
use Rattle.plant_check.proofs.CollectedRefusals.{collected_none, collects, collected_all}
use Rattle.plant_check.proofs.refusals.cards.find_few_in_line.Goals as goal

pub loop-i-init : goal.loop-i-init
loop-i-init c = collected_none _ _ _

pub loop-i-preserved : goal.loop-i-preserved
loop-i-preserved c =
    collects (too_few_in_line c.args.paths.now c.args.cards) c.args.stages.now c.loop-i.i c.index-stages-i.result _ _ _ c.loop-i.invariant (omega arith)
    c.index-stages-i.is c.in_ok-find_few_on_path.ensures

pub returns : goal.returns
returns c = collected_all (too_few_in_line c.args.paths.now c.args.cards) c.args.stages.now c.loop-i.i _ _ c.loop-i.invariant (omega arith)
