use Rattle.live_check.specs.Ranking.{CountsFree}
use Rattle.live_check.proofs.ranking.count_free.Given as goal

abbrev pub invariant-loop-arc : goal.invariant-loop-arc
invariant-loop-arc l = CountsFree l.graph l.counts.items l.arc-index
