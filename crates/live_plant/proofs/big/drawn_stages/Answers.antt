use Rattle.std.proofs.Common.{◌+◌, ◌*◌, refl, arith}
use Rattle.live_plant.specs.Generator.{state_after}
use Rattle.live_plant.specs.Big.{stages_of}
use Rattle.live_plant.proofs.Draws.{state_after-add}
use Rattle.live_plant.proofs.Lists.{stages_of-more}
use Rattle.live_plant.proofs.big.drawn_stages.Goals as goal

pub loop-number-init : goal.loop-number-init
unfolding state_after stages_of
loop-number-init c = record { state = refl; stages = c.new-stages.ensures.items }

pub loop-number-preserved : goal.loop-number-preserved
loop-number-preserved c =
    let n = c.loop-number.number in
    let s = c.args.generator.now in
    let on = state_after-add 8 (8 * n) (8 * (n + 1)) s (omega arith) in
    let more = stages_of-more s n in
    record {
      state = cc (c.in_ok-drawn_stage.ensures.state);
      stages = cc (c.in_ok-drawn_stage.ensures.stage, c.in_ok-push.ensures.items);
    }
