use Rattle.live_check.proofs.RankSteps.{complete_stuck}
use Rattle.live_check.proofs.live.rank.Goals as goal

pub dead_circuit-requires-clause-stuck : goal.dead_circuit-requires-clause-stuck
dead_circuit-requires-clause-stuck c =
    rw c.ranks.ensures (complete_stuck c.args.graph c.in-Ok.ranking c.in-Ok.ensures)
