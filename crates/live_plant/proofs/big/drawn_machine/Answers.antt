use Rattle.std.proofs.Common.{refl}
use Rattle.live_plant.proofs.Draws.{state_after-add, draw_below-after}
use Rattle.live_plant.proofs.big.drawn_machine.Goals as goal

pub returns-clause-machine : goal.returns-clause-machine
returns-clause-machine c =
    let second = draw_below-after 1 1 2 c.args.generator.now 20 refl in
    rw c.of.ensures (cc (second, c.in_ok-name_of.ensures, c.from-time.ensures))

pub returns-clause-state : goal.returns-clause-state
returns-clause-state c = let two = state_after-add 1 1 2 c.args.generator.now refl in cc
