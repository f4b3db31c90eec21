-- How far a run has come that fires the stations in the order of their ranks, once each for every job.
use Rattle.std.specs.Prelude.{◌≡◌, ℕ, ◌+◌, ◌<◌, ◌≤◌, List, length, slice_index}
use Rattle.event_graph.specs.Network.{stations}
use Rattle.event_graph.specs.State.{log}
use Rattle.line_core.specs.Run.{Run}

-- the stations below this rank have fired `done + 1` times, the others `done` times
pub record IsInRound (ranks : List ℕ) (r : Run) (done rank : ℕ) : Type 0 where
  pub ahead : (t : ℕ) → t < stations r.graph → slice_index ranks t < rank → length (log r.state t) ≡ done + 1
  pub behind : (t : ℕ) → t < stations r.graph → rank ≤ slice_index ranks t → length (log r.state t) ≡ done

-- each station has fired this many times
abbrev pub HasFired : Run → ℕ → Type 0
HasFired r times = (t : ℕ) → t < stations r.graph → length (log r.state t) ≡ times
