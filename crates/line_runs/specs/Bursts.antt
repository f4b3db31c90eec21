-- How far bursts lead a line, in whatever order its stations fire meanwhile.
use Rattle.std.specs.Prelude.{◌≡◌, ℕ, suc, ◌+◌, ◌*◌, ◌<◌, ◌≤◌, None, length, sum, min}
use Rattle.event_graph.specs.Network.{stations, jobs}
use Rattle.event_graph.specs.State.{log}
use Rattle.event_graph.specs.Firing.{CanFire}
use Rattle.line_core.specs.Consistent.{IsFinished, firing_count}
use Rattle.line_core.specs.Round.{HasFired}
use Rattle.line_worker.specs.Sweeps.{most_sweeps}
use Rattle.line_workers.specs.Line.{WorkLine, IsLine, LogsGrow, EachWorks, run_in}
use Rattle.line_runs.specs.AllFirings.{all_firings}

-- some station has fired, and where no ring's room is bounded each that could fire has, and maybe more
-- often; each has made as many turns as a burst has sweeps, or fewer where its worker's stations are
-- done; no date has changed. One worker whose stations have fired as often as each other fires each of
-- them with every step
pub record IsBurst (old new : WorkLine) : Type 0 where
  pub line : IsLine new
  pub frame : new ≡ record old { state = new.state; turns = new.turns }
  pub logs : LogsGrow old.live.graph old.state new.state
  pub works : EachWorks old new
  pub ready : old.room ≡ None → (t : ℕ) → CanFire old.live.graph old.state t →
      length (log old.state t) < length (log new.state t)
  pub some : firing_count old.state < firing_count new.state
  pub few : firing_count new.state ≤ firing_count old.state + most_sweeps * stations old.live.graph
  pub alone : (times : ℕ) → old.worker_count ≡ 1 → HasFired (run_in old) times →
      HasFired (run_in new) (min (times + most_sweeps) (jobs old.live.graph))
  pub alone_steps : (times : ℕ) → old.worker_count ≡ 1 → HasFired (run_in old) times →
      sum new.turns + firing_count old.state ≡ sum old.turns + firing_count new.state

-- the line has made all of its firings
abbrev pub IsDone : WorkLine → Type 0
IsDone l = IsFinished l.live.graph l.state

-- this many bursts lead from the first line to the other, and before each of them fewer than n firings
-- were made
pub data BurstsBelow (n : ℕ) (first : WorkLine) : ℕ → WorkLine → Type 0 where
  none : BurstsBelow n first 0 first
  more : (count : ℕ) (l last : WorkLine) → BurstsBelow n first count l → firing_count l.state < n →
      IsBurst l last → BurstsBelow n first (suc count) last

-- what this many bursts made: each a firing, so they are at most one for each station and job; and
-- where the one worker of the line began with stations that had fired as often as each other, as many
-- firings as steps
pub record HasMade (first last : WorkLine) (count : ℕ) : Type 0 where
  pub firings : count + firing_count first.state ≤ firing_count last.state
  pub at_most : count ≤ all_firings first.live.graph
  pub steps : (times : ℕ) → first.worker_count ≡ 1 → HasFired (run_in first) times →
      sum last.turns + firing_count first.state ≡ sum first.turns + firing_count last.state
