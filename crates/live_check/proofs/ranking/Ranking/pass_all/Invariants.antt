use Rattle.std.proofs.Common.{◌-◌}
use Rattle.event_graph.specs.Network.{stations}
use Rattle.live_check.specs.Ranking.{IsPassed, NoneIsReady}
use Rattle.live_check.proofs.ranking.Ranking.pass_all.Given as goal

abbrev pub invariant-loop-rank : goal.invariant-loop-rank
invariant-loop-rank l = record {
  passed : IsPassed l.graph l.self l.rank;
  ready : NoneIsReady l.graph l.self (stations l.graph);
}

abbrev pub decreases-loop-rank : goal.decreases-loop-rank
decreases-loop-rank l = stations l.graph - l.rank
