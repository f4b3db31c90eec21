use Rattle.live_check.proofs.RankSteps.{start_passed}
use Rattle.live_check.proofs.ranking.Ranking.new.Goals as goal

pub returns-clause-passed : goal.returns-clause-passed
returns-clause-passed c =
    let all = c.stations-stations.ensures in
    let ranks = c.in_ok-ranks.ensures.items_if_clones_equal (λ y same. same) in
    start_passed c.args.graph.now _ all.graph c.in_ok-waiting.ensures (rw all.count at ranks) c.in_ok-order.ensures.items
