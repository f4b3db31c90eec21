-- What contracts see of a line: what it was made for, the state that it stands for, and counts. Nothing of queues.
use Rattle.std.specs.Prelude.{◌≡◌, ◌≢◌, ℕ, ◌+◌, ◌-◌, ◌*◌, ◌<◌, ◌≤◌, ◌⊎◌, List, Option, None, Some, take, length, slice_index, All}
use Rattle.line_base.specs.declared.event.Parts.{Parts}
use Rattle.event_graph.specs.Network.{stations, jobs, arc, arc_count}
use Rattle.event_graph.specs.State.{State, log, place}
use Rattle.live_check.specs.Order.{LiveGraph, IsRanked}
use Rattle.line_core.specs.Consistent.{firing_count}
use Rattle.line_core.specs.Run.{Run, IsReached}
use Rattle.line_worker.specs.Share.{worker_of}
use Rattle.line_worker.specs.Sweeps.{most_sweeps}

-- what contracts see of a `Line`
pub record WorkLine : Type 0 where
  pub live : LiveGraph  -- the graph that it was made for, and the ranks of its stations
  pub state : State  -- the state that it stands for
  pub turns : List ℕ  -- how many steps each station has made
  pub worker_count : ℕ
  pub room : Option ℕ  -- how much room a ring has beyond the tokens with which its arc starts; none: no bound
  pub made : ℕ  -- how many firings had been made when the turns began to count

-- the run of a line: its graph and its state
abbrev pub run_in : WorkLine → Run
run_in l = record { graph = l.live.graph; state = l.state }

-- how many firings the line has made since its turns began to count
abbrev pub firings_of : WorkLine → ℕ
firings_of l = firing_count l.state - l.made

-- no station has made more turns than a burst has sweeps for each firing
abbrev pub KeepsPace : WorkLine → Type 0
KeepsPace l = (l.made ≤ firing_count l.state) × All (λ turns. turns ≤ most_sweeps * firings_of l) l.turns

-- two workers have the stations of arc a
abbrev pub IsBetween : WorkLine → ℕ → Type 0
IsBetween l a =
    worker_of l.worker_count (stations l.live.graph) (arc l.live.graph a).from ≢
    worker_of l.worker_count (stations l.live.graph) (arc l.live.graph a).to

-- on an arc between two workers no more tokens wait than those with which it starts, the room and one in the hand
abbrev pub IsWithinRooms : WorkLine → Type 0
IsWithinRooms l = (room : ℕ) → l.room ≡ Some room → (a : ℕ) → a < arc_count l.live.graph → IsBetween l a →
    length (place l.state a) ≤ (arc l.live.graph a).tokens + room + 1

-- what holds of each line: the graph is live, firings lead to its state, and tokens wait only where there is room
pub record IsLine (l : WorkLine) : Type 0 where
  pub ranked : IsRanked l.live
  pub reached : IsReached (run_in l)
  pub pace : KeepsPace l
  pub within : IsWithinRooms l

-- each log has the dates that it had, and maybe more behind them
abbrev pub LogsGrow : Parts → State → State → Type 0
LogsGrow g old new = (t : ℕ) → t < stations g → take (length (log old t)) (log new t) ≡ log old t

-- how many turns station t of a line has made, and how many firings
abbrev pub turns_at : WorkLine → ℕ → ℕ
turns_at l t = slice_index l.turns t

abbrev pub dates_at : WorkLine → ℕ → ℕ
dates_at l t = length (log l.state t)

-- one worker has both stations
abbrev pub AreOfOneWorker : WorkLine → ℕ → ℕ → Type 0
AreOfOneWorker l t u =
    worker_of l.worker_count (stations l.live.graph) u ≡ worker_of l.worker_count (stations l.live.graph) t

-- what station t did in a burst: it made as many turns as the burst has sweeps, or fewer where all stations of its
-- worker are done, and as many as each of them; in a turn it made one firing at most
pub record WorksAt (old new : WorkLine) (t : ℕ) : Type 0 where
  pub turned : turns_at old t ≤ turns_at new t
  pub few : turns_at new t ≤ turns_at old t + most_sweeps
  pub ended : ((u : ℕ) → u < stations old.live.graph → AreOfOneWorker old t u → dates_at new u ≡ jobs old.live.graph) ⊎
      (turns_at new t ≡ turns_at old t + most_sweeps)
  pub even : (u : ℕ) → u < stations old.live.graph → AreOfOneWorker old t u →
      turns_at new u + turns_at old t ≡ turns_at new t + turns_at old u
  pub steps : dates_at new t + turns_at old t ≤ dates_at old t + turns_at new t

-- each station did so
abbrev pub EachWorks : WorkLine → WorkLine → Type 0
EachWorks old new = (t : ℕ) → t < stations old.live.graph → WorksAt old new t

-- a new line of this many workers, with rings of this room, which stands for this state
pub record StandsIn (room : Option ℕ) (live : LiveGraph) (state : State) (worker_count : ℕ) (l : WorkLine)
    : Type 0 where
  pub live_is : l.live ≡ live
  pub state_is : l.state ≡ state
  pub workers_are : l.worker_count ≡ worker_count
  pub room_is : l.room ≡ room
  pub made_is : l.made ≡ firing_count state
  pub no_turns : All (λ turns. turns ≡ 0) l.turns

-- a new line of this many workers, with rings whose room has no bound, which stands for this state
abbrev pub Stands : LiveGraph → State → ℕ → WorkLine → Type 0
Stands live state worker_count = StandsIn None live state worker_count
