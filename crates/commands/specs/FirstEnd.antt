-- Where a run ends that is to stop at n firings: at the first burst's end with n firings, from the start of the graph
-- on.
use Rattle.std.specs.Prelude.{◌≡◌, ℕ, ◌≤◌}
use Rattle.event_graph.specs.State.{State, start}
use Rattle.line_base.specs.declared.event.Parts.{Parts}
use Rattle.line_core.specs.Consistent.{firing_count}
use Rattle.line_runs.specs.Bursts.{BurstsBelow, IsDone}
use Rattle.line_workers.specs.Line.{WorkLine, Stands}
use Rattle.live_check.specs.Order.{LiveGraph}

-- a new line of this many workers stood at the start of the graph, and bursts led it on to this line; before each of
-- them fewer than n firings were made
pub record IsLedBelow (g : Parts) (n workers : ℕ) (last : WorkLine) : Type 0 where
  pub live : LiveGraph
  pub graph_is : live.graph ≡ g
  pub first : WorkLine
  pub begins : Stands live (start g) workers first
  pub count : ℕ
  pub bursts : BurstsBelow n first count last

-- the first burst's end with n firings, or the start where n is 0: in this state n firings are made, and at every
-- burst's end before it there were fewer
pub record IsFirstEnd (g : Parts) (n workers : ℕ) (s : State) : Type 0 where
  pub last : WorkLine
  pub led : IsLedBelow g n workers last
  pub state_is : s ≡ last.state
  pub enough : n ≤ firing_count s

-- all firings were made, and at every burst's end before that fewer than n were
pub record IsDoneFirst (g : Parts) (n workers : ℕ) : Type 0 where
  pub last : WorkLine
  pub led : IsLedBelow g n workers last
  pub done : IsDone last
