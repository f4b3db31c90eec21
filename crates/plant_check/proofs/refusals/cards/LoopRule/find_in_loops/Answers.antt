use Rattle.std.proofs.Common.{ap, ◌++◌, ◌∙◌, arith}
use Rattle.plant_model.specs.Refusals.{each}
use Rattle.plant_check.specs.Rules.{refused_loop}
use Rattle.plant_check.proofs.CollectedRefusals.{collected_none, collects_read, collected_all}
use Rattle.plant_check.proofs.refusals.cards.LoopRule.find_in_loops.Goals as goal

pub loop-k-init : goal.loop-k-init
loop-k-init c = collected_none _ _ _

pub loop-k-preserved : goal.loop-k-preserved
loop-k-preserved c =
    collects_read (refused_loop c.args.self c.args.paths.now) c.as_slice-loops.result.now c.loop-k.k _ _ _ _ c.loop-k.invariant
    (omega arith) c.in_ok-find_in_loop.ensures

pub returns : goal.returns
returns c =
    let are = c.as_slice-loops.ensures ∙ ap (λ plant. plant.loops) c.plant.ensures in
    collected_all (refused_loop c.args.self c.args.paths.now) c.as_slice-loops.result.now c.loop-k.k _ _ c.loop-k.invariant (omega arith)
    ∙ ap (λ loops. c.args.refusals.now.items ++ each (refused_loop c.args.self c.args.paths.now) loops) are
