-- Where a run ends that is to stop.
use Rattle.std.specs.Prelude.{◌≡◌, ℕ, ◌+◌, ◌*◌, ◌<◌, ◌≤◌, ◌⊎◌}
use Rattle.line_base.specs.declared.event.Parts.{Parts}
use Rattle.event_graph.specs.Network.{stations}
use Rattle.line_core.specs.Consistent.{firing_count}
use Rattle.line_core.specs.Run.{Run, Dates}
use Rattle.line_worker.specs.Sweeps.{most_sweeps}
use Rattle.line_workers.specs.Line.{WorkLine, run_in}
use Rattle.line_runs.specs.AllFirings.{all_firings}
use Rattle.line_runs.specs.Bursts.{BurstsBelow, HasMade, IsDone}
use Rattle.line_runs.specs.declared.stop.Outcome.{Outcome}
use Rattle.line_runs.specs.declared.stop.Outcome.TheVariants.{Finished, Stopped}

-- bursts, before each of which fewer than n firings were made, lead to a line that has made all:
-- these are its dates
pub record FinishesBefore (n : ℕ) (first : WorkLine) (d : Dates) : Type 0 where
  pub last : WorkLine
  pub count : ℕ
  pub bursts : BurstsBelow n first count last
  pub counts : HasMade first last count
  pub done : IsDone last
  pub all : firing_count last.state ≡ all_firings first.live.graph
  pub dates : d.rows ≡ last.state.logs

-- bursts, before each of which fewer than n firings were made, lead to a line that has made n, and
-- not all: this is its state
pub record StopsFirst (n : ℕ) (first : WorkLine) (r : Run) : Type 0 where
  pub last : WorkLine
  pub count : ℕ
  pub bursts : BurstsBelow n first count last
  pub counts : HasMade first last count
  pub enough : n ≤ firing_count last.state
  pub undone : ¬ IsDone last
  pub state : r ≡ run_in last

-- the run ends at the first burst's end, or before the first burst, where n firings are made or all
-- of them
abbrev pub EndsFirst : ℕ → WorkLine → Outcome → Type 0
EndsFirst n first (Finished d) = FinishesBefore n first d
EndsFirst n first (Stopped r) = StopsFirst n first r

-- the run was not stopped: some firing was left before n were made, and there are few more than n
-- in all
pub record IsShort (g : Parts) (n begun : ℕ) : Type 0 where
  pub begun_below : begun < n
  pub few : all_firings g < n + most_sweeps * stations g

-- the run was stopped after this many firings
pub record IsStopAt (g : Parts) (n begun made : ℕ) : Type 0 where
  pub enough : n ≤ made
  pub not_all : made < all_firings g
  pub soon : (made ≡ begun) ⊎ (made < n + most_sweeps * stations g)
  pub at_once : n ≤ begun → made ≡ begun

-- how many firings a run makes that is asked to stop at n, where this many were made as it began
abbrev pub CountsWell : Parts → ℕ → ℕ → Outcome → Type 0
CountsWell g n begun (Finished d) = begun < all_firings g → IsShort g n begun
CountsWell g n begun (Stopped r) = IsStopAt g n begun (firing_count r.state)
