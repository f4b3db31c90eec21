use Rattle.std.proofs.Common.{◌≡◌, ◌+◌, ap, ◌∙◌, get_or, arith}
use Rattle.event_graph.specs.Network.{arc}
use Rattle.cycle_time.specs.Search.{gain, loss}
use Rattle.cycle_time.proofs.Offers.{better_given, better_kept}
use Rattle.cycle_time.proofs.tree.better_of.Goals as goal
use Rattle.cycle_time.proofs.tree.better_of.Goals.{After-from}

-- what the walk to the arc's start and the arc add together
sum : (c : After-from) → get_or c.args.potentials.now c.arc-from.result.from 0 + c.from.result ≡ get_or c.args.potentials.now (arc c.args.graph.now c.args.a).from 0 + gain c.args.graph.now c.args.weights.now.weighing c.args.a
sum c =
    let start = ap (λ (x : _). get_or c.args.potentials.now x.from 0) c.arc-from.ensures.arc in
    let gained = c.from.ensures ∙ (c.gain.ensures ∙ c.requires.weights.gains c.args.a c.requires.exists) in
    omega (arith, start, gained)

lost : (c : After-from) → c.from-loss.result ≡ loss c.args.graph.now c.args.weights.now.weighing c.args.a
lost c = c.from-loss.ensures ∙ (c.loss.ensures ∙ c.requires.weights.losses c.args.a c.requires.exists)

pub returns-then-sum-before : goal.returns-then-sum-before
returns-then-sum-before c =
    let here = (goal.at.returns-then-sum-before c).After-from in
    better_given c.args.graph.now c.args.weights.now.weighing c.args.potentials.now c.args.a _ _ c.args.before (sum here) (lost here) c.if-sum-before.true

pub returns-else-sum-before : goal.returns-else-sum-before
returns-else-sum-before c =
    let here = (goal.at.returns-else-sum-before c).After-from in
    better_kept c.args.graph.now c.args.weights.now.weighing c.args.potentials.now c.args.a _ _ c.args.before (sum here) (lost here) c.if-sum-before.false
