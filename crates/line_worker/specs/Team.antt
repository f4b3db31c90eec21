-- The stations of one worker, and the shelf with their logs and the queues between them.
use Rattle.std.specs.Prelude.{◌≡◌, ◌≢◌, ℕ, ◌+◌, ◌<◌, List, [], take, length, slice_index_or}
use Rattle.line_base.specs.declared.event.Parts.{Parts}
use Rattle.card_queue.specs.Plain.{PlainQueue}
use Rattle.event_graph.specs.State.{State, log}
use Rattle.station_step.specs.Shelf.{WorkShelf}
use Rattle.station_step.specs.Station.{WorkStation, IsStation, IsSeated, StandsAt, AreApart}
use Rattle.station_step.specs.Kept.{IsKept}

-- what contracts see of a `Team`
pub record WorkTeam : Type 0 where
  pub stations : List WorkStation
  pub shelf : List PlainQueue

-- stands for a station past the end of a list
abbrev pub no_station : WorkStation
no_station = record {
  graph = record { labels = []; times = []; dates = []; arcs = []; delays = [] };
  number = 0;
  inputs = [];
  outlets = [];
  log = record { dates = []; room = 0 };
  made = 0;
  turns = 0;
}

-- station i of a list, counted from 0
abbrev pub member : List WorkStation → ℕ → WorkStation
member stations i = slice_index_or stations i no_station

-- the shelf has a log for each of these stations, and each stands on it by its number among them
pub record AreAt (shelf : WorkShelf) (stations : List WorkStation) : Type 0 where
  pub count : length shelf.logs ≡ length stations
  pub each : (i : ℕ) → i < length stations → StandsAt i shelf (member stations i)

-- the station is number t of the graph; its log goes on from the log in the state with which the line began
pub record IsMember (g : Parts) (begun : State) (t : ℕ) (shelf : List PlainQueue) (s : WorkStation) : Type 0 where
  pub graph : s.graph ≡ g
  pub number : s.number ≡ t
  pub station : IsStation s
  pub seated : IsSeated shelf s
  pub kept : IsKept shelf s
  pub made : s.made ≡ length (log begun t)
  pub begins : take s.made s.log.dates ≡ log begun t

-- the stations of the graph from the first on, and no two of them have a queue together
pub record IsTeam (g : Parts) (begun : State) (first : ℕ) (team : WorkTeam) : Type 0 where
  pub members : (i : ℕ) → i < length team.stations →
      IsMember g begun (first + i) team.shelf (member team.stations i)
  pub apart : (i j : ℕ) → i < length team.stations → j < length team.stations → i ≢ j →
      AreApart (member team.stations i) (member team.stations j)
