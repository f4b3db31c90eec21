use Rattle.cycle_time.proofs.Offers.{best_offer}
use Rattle.cycle_time.proofs.tree.best_of.Goals as goal

pub returns : goal.returns
returns c =
    best_offer c.args.graph.now c.args.weights.now.weighing c.args.potentials.now c.args.t c.loop-a.a-index c.loop-a.best c.ins-ins.result.now c.ins-ins.ensures.arcs c.loop-a-test.false c.loop-a.invariant.covers c.loop-a.invariant.cause
