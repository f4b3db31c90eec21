use Rattle.std.proofs.Common.{◌≡◌}
use Rattle.line_core.specs.Run.{IsReached}
use Rattle.line_core.specs.Round.{HasFired}
use Rattle.line_core.proofs.rounds.run.Given as goal

abbrev pub invariant-loop-done : goal.invariant-loop-done
invariant-loop-done l = record {
  graph : l.state.graph ≡ l.live.graph;
  fired : HasFired l.state l.done;
  reached : IsReached l.state;
}
