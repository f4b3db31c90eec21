use Rattle.std.proofs.Common.{refl, ◌∙◌}
use Rattle.live_plant.proofs.Draws.{state_after-add}
use Rattle.live_plant.proofs.Lists.{machines_from-drawn}
use Rattle.live_plant.proofs.big.drawn_machines.Goals as goal

pub returns-clause-machines : goal.returns-clause-machines
returns-clause-machines c =
    c.in_ok-vec.ensures.items
    ∙ machines_from-drawn c.args.generator.now c.drawn_machine.new.generator c.drawn_machine-2.new.generator
    c.in_ok-a.a c.in_ok-b.b c.in_ok-c.c
    c.in_ok-a.ensures.machine c.in_ok-a.ensures.state c.in_ok-b.ensures.machine c.in_ok-b.ensures.state c.in_ok-c.ensures.machine

pub returns-clause-state : goal.returns-clause-state
returns-clause-state c =
    let four = state_after-add 2 2 4 c.args.generator.now refl in
    let six = state_after-add 2 4 6 c.args.generator.now refl in
    cc (c.in_ok-a.ensures.state, c.in_ok-b.ensures.state, c.in_ok-c.ensures.state)
