use Rattle.std.proofs.Common.{refl}
use Rattle.live_plant.specs.Big.{stage_from}
use Rattle.live_plant.proofs.Draws.{state_after-add, draw_below-after}
use Rattle.live_plant.proofs.big.drawn_stage.Goals as goal

pub returns-clause-stage : goal.returns-clause-stage
unfolding stage_from
returns-clause-stage c =
    let second = draw_below-after 1 1 2 c.args.generator.now 4 refl in
    let two = state_after-add 1 1 2 c.args.generator.now refl in
    cc (c.in_ok-numbered_name.ensures, c.in_ok-drawn_machines.ensures.machines)

pub returns-clause-state : goal.returns-clause-state
returns-clause-state c =
    let two = state_after-add 1 1 2 c.args.generator.now refl in
    let eight = state_after-add 6 2 8 c.args.generator.now refl in
    cc (c.in_ok-drawn_machines.ensures.state)
