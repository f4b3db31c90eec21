use Rattle.std.proofs.Common.{◌≡◌, ◌-◌}
use Rattle.event_graph.specs.Least.{IsLeast}
use Rattle.event_graph.specs.Network.{stations}
use Rattle.event_graph.specs.Table.{Table}
use Rattle.line_core.specs.Round.{HasFired}
use Rattle.line_core.specs.Run.{IsReached}
use Rattle.card_sizing.specs.Serving.{wait_until, NoneWaitsLonger}
use Rattle.card_sizing.proofs.waits.first_late.Given as goal

abbrev pub invariant-loop-done : goal.invariant-loop-done
invariant-loop-done l = record {
  graph : l.state.graph ≡ l.initial.state.graph;
  fired : HasFired l.state l.done;
  reached : IsReached l.state;
  none : (x : Table) → IsLeast l.live.graph x → NoneWaitsLonger (wait_until x (stations l.live.graph - 1)) l.done l.may;
}
