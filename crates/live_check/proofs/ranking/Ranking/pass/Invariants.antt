use Rattle.std.proofs.Common.{◌+◌, drop}
use Rattle.live_check.proofs.RankSteps.{HasTurned}
use Rattle.live_check.proofs.ranking.Ranking.pass.Given as goal

abbrev pub invariant-loop-a : goal.invariant-loop-a
invariant-loop-a l = HasTurned l.graph l.self (l.rank + 1) (drop l.a-index l.ins)
