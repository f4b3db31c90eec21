-- The workers of one line.
use Rattle.std.specs.Prelude.{◌≡◌, ℕ, ◌+◌, ◌^◌, ◌<◌, ◌≤◌, ◌⊎◌, List, [], Option, None, IfSome, length, slice_index_or}
use Rattle.line_base.specs.declared.event.Parts.{Parts}
use Rattle.event_graph.specs.Network.{arc_count, jobs}
use Rattle.event_graph.specs.State.{State}
use Rattle.live_check.specs.Order.{LiveGraph}
use Rattle.line_worker.specs.Team.{no_station}
use Rattle.line_worker.specs.Teams.{IsJoined, AreOfRoom}
use Rattle.line_worker.specs.Worker.{LineWorker, IsWorker, with_team, teams_of}
use Rattle.line_worker.specs.Work.{SteppedInOrder, AreOfBurst, HasSwept, HasBurst, HasBurstAlone, IsAlone, AllDone, TurnsBelow, IsBursting}

-- stands for a worker past the end of a list
abbrev pub no_worker : LineWorker
no_worker = record {
  live = record { graph = no_station.graph; ranks = [] };
  begun = record { logs = []; places = [] };
  worker_count = 0;
  room = None;
  worker_number = 0;
  first = 0;
  team = record { stations = []; shelf = [] };
  target = 0;
  order = [];
  spare = record { logs = []; room = 0 };
}

-- worker w of these
abbrev pub worker_at : List LineWorker → ℕ → LineWorker
worker_at workers w = slice_index_or workers w no_worker

-- what the line of these workers was made for, and the state with which it began
abbrev pub live_of : List LineWorker → LiveGraph
live_of workers = (worker_at workers 0).live

abbrev pub graph_of : List LineWorker → Parts
graph_of workers = (live_of workers).graph

abbrev pub begun_of : List LineWorker → State
begun_of workers = (worker_at workers 0).begun

-- how much room the rings of the line have beyond the tokens with which their arcs start
abbrev pub room_of : List LineWorker → Option ℕ
room_of workers = (worker_at workers 0).room

-- all workers of one line, in order: each arc has its queue among them, and each ring its room
pub record AreWorkers (workers : List LineWorker) : Type 0 where
  pub some : 1 ≤ length workers
  pub each : (w : ℕ) → w < length workers → IsWorker (worker_at workers w)
  pub worker_count : (w : ℕ) → w < length workers → (worker_at workers w).worker_count ≡ length workers
  pub numbers : (w : ℕ) → w < length workers → (worker_at workers w).worker_number ≡ w
  pub lives : (w : ℕ) → w < length workers → (worker_at workers w).live ≡ live_of workers
  pub begun : (w : ℕ) → w < length workers → (worker_at workers w).begun ≡ begun_of workers
  pub joined : (a : ℕ) → a < arc_count (graph_of workers) →
      IsJoined (graph_of workers) (begun_of workers) (teams_of workers) a
  pub kinds : (w : ℕ) → w < length workers → (worker_at workers w).room ≡ room_of workers
  pub some_room : IfSome (room_of workers) (λ room. 1 ≤ room)
  pub rooms : AreOfRoom (room_of workers) (graph_of workers) (teams_of workers)

-- the worker is the same but for its team
pub record IsSameWorker (old new : LineWorker) : Type 0 where
  pub worker : IsWorker new
  pub frame : new ≡ with_team old new.team

-- each worker is the same but for its team
pub record AreSameWorkers (old new : List LineWorker) : Type 0 where
  pub count : length new ≡ length old
  pub each : (w : ℕ) → w < length old → IsSameWorker (worker_at old w) (worker_at new w)

-- what a worker did in a burst
pub record HasDoneBurst (old new : LineWorker) : Type 0 where
  pub same : IsSameWorker old new
  pub burst : HasBurst old.target old.team new.team
  pub alone : (times : ℕ) → IsAlone old times → times ≤ old.target → HasBurstAlone times old new
  pub sweeps : (count : ℕ) × AreOfBurst old.order old.target old.team new.team count

-- the worker is of the line that was made for this, and may work for a burst
pub record IsReadyFor (live : LiveGraph) (c : LineWorker) : Type 0 where
  pub made_for : live ≡ c.live
  pub turns : TurnsBelow (2 ^ 38) c.team

-- the worker has made all sweeps of a burst that it makes, since its stations are done
pub record HasEnded (old now : LineWorker) : Type 0 where
  pub worked : HasDoneBurst old now
  pub done : AllDone now.target now.team

-- the worker as it was when a burst began, and as it is after this many rounds: it made a sweep in each, or is done
abbrev pub IsAtWork : LineWorker → LineWorker → ℕ → Type 0
IsAtWork old now sweeps = IsBursting old now sweeps ⊎ HasEnded old now

-- the worker is of the line that was made for this, and may make a sweep
pub record MayGoOn (live : LiveGraph) (c : LineWorker) : Type 0 where
  pub made_for : live ≡ c.live
  pub turns : TurnsBelow (2 ^ 39) c.team

-- a sweep: some station of the worker was not done; each had one turn, in the worker's order, and nothing else of it
-- has changed. The one worker of its line, where all stations have made as many dates, fired each of them
pub record HasMadeSweep (old new : LineWorker) : Type 0 where
  pub undone : ¬ AllDone old.target old.team
  pub frame : new ≡ with_team old new.team
  pub swept : HasSwept old.team new.team
  pub in_order : SteppedInOrder old.order old.team new.team
  pub alone : (times : ℕ) → IsAlone old times → times < jobs old.live.graph → IsAlone new (times + 1)

-- no sweep: all stations of the worker were done, and it is as it was
pub record HasRested (old new : LineWorker) : Type 0 where
  pub done : AllDone old.target old.team
  pub stays : new ≡ old

-- one round of a burst
pub record HasMadeRound (old new : LineWorker) : Type 0 where
  pub worker_before : IsWorker old
  pub worker : IsWorker new
  pub round : HasMadeSweep old new ⊎ HasRested old new
