use Rattle.live_check.proofs.RankSteps.{HasRankedIdle}
use Rattle.live_check.proofs.ranking.Ranking.rank_idle.Given as goal

abbrev pub invariant-loop-t : goal.invariant-loop-t
invariant-loop-t l = HasRankedIdle l.graph l.self l.t
