use Rattle.std.proofs.Common.{◌≡◌, ◌∙◌, arith}
use Rattle.plant_file.specs.Finish.{loop_with}
use Rattle.plant_file.proofs.Built.{built_more_read, built_all}
use Rattle.plant_file.proofs.finish.loops_with.Goals as goal

pub loop-card_loop-init : goal.loop-card_loop-init
loop-card_loop-init c = c.in_ok-made.ensures.items

pub loop-card_loop-preserved : goal.loop-card_loop-preserved
loop-card_loop-preserved c =
    c.in_ok-push.ensures
    ∙ built_more_read (loop_with _) c.args.loops.now c.loop-card_loop.card_loop-index _ _ _ c.loop-card_loop.invariant
    c.loop-card_loop-test.true c.loop_with.ensures

pub returns-clause-made : goal.returns-clause-made
returns-clause-made c =
    let count : c.in-Ok.count ≡ c.args.stages = omega arith in
    rw (← count)
    (c.from_vec.ensures
    ∙ built_all (loop_with _) c.args.loops.now c.loop-card_loop.card_loop-index _ c.loop-card_loop.invariant
    c.loop-card_loop-test.false)
