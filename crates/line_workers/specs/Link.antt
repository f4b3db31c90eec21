-- Where the two ends of an arc's queue stand, and what their meeting does.
use Rattle.std.specs.Prelude.{◌≡◌, ◌≢◌, ℕ, ◌-◌, ◌<◌, ◌==◌, ⊤, Bool, not, List, map, length, slice_set}
use Rattle.std.specs.List.{filter, range_with_len}
use Rattle.line_base.specs.declared.event.Parts.{Parts}
use Rattle.event_graph.specs.Network.{stations, arc, arc_count, ins, outs}
use Rattle.station_step.specs.Ends.{AreEnds, AreMet}
use Rattle.station_step.specs.Input.{input_at}
use Rattle.station_step.specs.Station.{WorkStation, outlet_at}
use Rattle.line_workers.specs.declared.link.Seat.{Seat}
use Rattle.line_workers.specs.declared.link.Link.{Link}
use Rattle.line_workers.specs.declared.link.Links.{Links}
use Rattle.line_workers.specs.declared.link.Links.TheVariants.{Listed, Unlisted}
use Rattle.line_worker.specs.Share.{worker_of, first_of}
use Rattle.line_worker.specs.Team.{member}
use Rattle.line_worker.specs.Teams.{index_in}
use Rattle.line_worker.specs.Worker.{LineWorker}
use Rattle.line_worker.specs.Meeting.{OutletMet, InletMet}
use Rattle.line_worker.specs.Workers.{worker_at, IsSameWorker}

-- the worker of station t, one of this many with stations up to a number, and the station's number in the team
abbrev pub seat_among : ℕ → ℕ → ℕ → Seat
seat_among worker_count stations t = record {
  worker_number = worker_of worker_count stations t;
  number = t - first_of worker_count stations (worker_of worker_count stations t);
}

-- that of a graph's station
abbrev pub seat_of : Parts → ℕ → ℕ → Seat
seat_of g worker_count t = seat_among worker_count (stations g) t

-- where the two ends of arc a stand
abbrev pub link_of : Parts → ℕ → ℕ → Link
link_of g worker_count a = record {
  from = seat_of g worker_count (arc g a).from;
  output = index_in (outs g (arc g a).from) a;
  to = seat_of g worker_count (arc g a).to;
  input = index_in (ins g (arc g a).to) a;
}

-- one worker has both stations of arc a
abbrev pub IsInside : Parts → ℕ → ℕ → Type 0
IsInside g worker_count a =
    worker_of worker_count (stations g) (arc g a).from ≡ worker_of worker_count (stations g) (arc g a).to

-- arc a leads from one worker to another
abbrev pub is_between : Parts → ℕ → ℕ → Bool
is_between g worker_count a =
    not (worker_of worker_count (stations g) (arc g a).from == worker_of worker_count (stations g) (arc g a).to)

-- of the first n arcs those between two workers, in their order
unfoldable pub arcs_between : Parts → ℕ → ℕ → List ℕ
arcs_between g worker_count n = filter (is_between g worker_count) (range_with_len 0 n)

-- where their ends stand
abbrev pub first_links : Parts → ℕ → ℕ → List Link
first_links g worker_count n = map (link_of g worker_count) (arcs_between g worker_count n)

-- where the ends of each arc between two workers stand
abbrev pub links_of : Parts → ℕ → List Link
links_of g worker_count = first_links g worker_count (arc_count g)

-- a list that a line has is that of all arcs between two of its workers
abbrev pub AreLinks : Parts → ℕ → Links → Type 0
AreLinks g worker_count (Listed links) = links.items ≡ links_of g worker_count
AreLinks g worker_count Unlisted = ⊤

-- the station at a seat
abbrev pub seated_at : List LineWorker → Seat → WorkStation
seated_at workers seat = member (worker_at workers seat.worker_number).team.stations seat.number

-- there is a station at the seat
pub record IsSeat (workers : List LineWorker) (seat : Seat) : Type 0 where
  pub worker_number : seat.worker_number < length workers
  pub number : seat.number < length (worker_at workers seat.worker_number).team.stations

-- the ends of a ring stand there, with two workers
pub record IsRing (workers : List LineWorker) (link : Link) : Type 0 where
  pub apart : link.from.worker_number ≢ link.to.worker_number
  pub from : IsSeat workers link.from
  pub output : link.output < length (seated_at workers link.from).outlets
  pub to : IsSeat workers link.to
  pub input : link.input < length (seated_at workers link.to).inputs
  pub ends : AreEnds (outlet_at (seated_at workers link.from).outlets link.output)
      (input_at (seated_at workers link.to).inputs link.input).inlet

-- the ends that stand there met
pub record HaveMet (link : Link) (old new : List LineWorker) : Type 0 where
  pub only : new ≡
      slice_set (slice_set old link.from.worker_number (worker_at new link.from.worker_number)) link.to.worker_number
      (worker_at new link.to.worker_number)
  pub from_same : IsSameWorker (worker_at old link.from.worker_number) (worker_at new link.from.worker_number)
  pub to_same : IsSameWorker (worker_at old link.to.worker_number) (worker_at new link.to.worker_number)
  pub from : OutletMet link.from.number link.output (worker_at old link.from.worker_number).team
      (worker_at new link.from.worker_number).team
  pub to :
      InletMet link.to.number link.input (worker_at old link.to.worker_number).team
      (worker_at new link.to.worker_number).team
  pub met : AreMet (outlet_at (seated_at new link.from).outlets link.output)
      (input_at (seated_at new link.to).inputs link.input).inlet
