use Rattle.std.proofs.Common.{arith}
use Rattle.toml.specs.View.{view}
use Rattle.plant_lint.specs.Unused.{unused_in_stage}
use Rattle.plant_lint.proofs.GatheredNotes.{gathered_none, gathers, gathered_all}
use Rattle.plant_lint.proofs.unused.add_stages.Goals as goal

pub loop-i-init : goal.loop-i-init
loop-i-init c = gathered_none _ _ _

pub loop-i-preserved : goal.loop-i-preserved
loop-i-preserved c =
    gathers (λ i s. unused_in_stage c.args.with_cards c.args.without_stock i (view s)) c.args.stages.now c.loop-i.i c.index-stages-i.result _ _ _
    c.loop-i.invariant (omega arith) c.index-stages-i.is c.in_ok-add_stage.ensures

pub returns : goal.returns
returns c =
    gathered_all (λ i s. unused_in_stage c.args.with_cards c.args.without_stock i (view s)) c.args.stages.now c.loop-i.i _ _ c.loop-i.invariant (omega arith)
