-- What a run may choose of its workers, and which line it runs.
use Rattle.std.specs.Prelude.{◌≡◌, ℕ, ◌+◌, ◌*◌, ◌<◌, ◌≤◌, Bool, IsTrue, List, Option, None, Some}
use Rattle.line_base.specs.declared.event.Parts.{Parts}
use Rattle.event_graph.specs.Network.{stations}
use Rattle.event_graph.specs.State.{State}
use Rattle.live_check.specs.Order.{LiveGraph}
use Rattle.line_core.specs.Run.{Dates}
use Rattle.line_workers.specs.Line.{WorkLine, StandsIn}
use Rattle.crash_disk.specs.DiskView.{DiskView}
use Rattle.crash_disk.specs.Crash.{bytes_now}
use Rattle.crash_disk.specs.Layout.{content}
use Rattle.line_runs.specs.Bursts.{IsDone}
use Rattle.line_runs.specs.Standing.{GoesOn}
use Rattle.line_runs.specs.StandsFor.{StandsFor}
use Rattle.line_runs.specs.declared.scheduler.paying.TheConstants.{STATIONS_EACH}

-- of the workers that were asked for this many pay: one, or as many as have thirty stations each
pub record Pay (g : Parts) (asked n : ℕ) : Type 0 where
  pub some : 1 ≤ n
  pub few : n ≤ asked
  pub enough : 1 < n → n * STATIONS_EACH ≤ stations g
  pub most : n < asked → stations g < (n + 1) * STATIONS_EACH

-- how many workers a run has that was asked for this many: those that pay, or all where the room of rings is bounded
abbrev pub HasWorkers : Option ℕ → Parts → ℕ → ℕ → Type 0
HasWorkers None g asked n = Pay g asked n
HasWorkers (Some room) g asked n = n ≡ asked

-- the line of a run from this state on that was asked for this many workers, and rings of this room
pub record IsLineOfRun (room : Option ℕ) (live : LiveGraph) (state : State) (asked : ℕ) (l : WorkLine) : Type 0 where
  pub workers : HasWorkers room live.graph asked l.worker_count
  pub stands : StandsIn room live state l.worker_count l

-- the line went on, by the same workers with rings of the same room, until all firings were made, and these are its
-- dates
pub record EndsFrom (first : WorkLine) (d : Dates) : Type 0 where
  pub last : WorkLine
  pub goes_on : GoesOn first last
  pub done : IsDone last
  pub dates : d.rows ≡ last.state.logs

-- a line stood for the state whose text these bytes are, by as many of this many workers as pay, and ended so
pub record IsResumedBy (live : LiveGraph) (bytes : List ℕ) (asked : ℕ) (d : Dates) : Type 0 where
  pub first : WorkLine
  pub workers : Pay live.graph asked first.worker_count
  pub stands : StandsFor live bytes first.worker_count first
  pub ends : EndsFrom first d

-- and these bytes are what the slots of a disk hold, where it tells it
pub record IsResumedFromSlots (tells : Bool) (disk : DiskView) (room : ℕ) (live : LiveGraph) (asked : ℕ)
    (d : Dates) : Type 0 where
  pub bytes : List ℕ
  pub saved : IsTrue tells → content (bytes_now disk) room ≡ Some bytes
  pub resumed : IsResumedBy live bytes asked d
