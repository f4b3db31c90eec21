use Rattle.std.proofs.Common.{◌≡◌}
use Rattle.line_core.specs.Run.{IsReached}
use Rattle.line_core.specs.Round.{IsInRound}
use Rattle.line_core.proofs.rounds.fire_each.Given as goal

abbrev pub invariant-loop-rank : goal.invariant-loop-rank
invariant-loop-rank l = record {
  graph : l.state.graph ≡ l.initial.state.graph;
  round : IsInRound l.live.ranks l.state l.done l.rank;
  reached : IsReached l.state;
}
