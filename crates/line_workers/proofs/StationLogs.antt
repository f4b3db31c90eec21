-- The log of a station of a line: that of the station which stands at its seat.
use Rattle.std.proofs.Common.{◌≡◌, ℕ, ◌<◌, List, length, get_or, ap, ◌∙◌, sym, subst}
use Rattle.std.proofs.lemmas.List.{get_or_read}
use Rattle.event_graph.specs.Network.{stations}
use Rattle.event_graph.specs.State.{log}
use Rattle.station_step.specs.Station.{WorkStation}
use Rattle.line_worker.specs.Logs.{log_of}
use Rattle.line_worker.specs.Team.{member}
use Rattle.line_worker.specs.Teams.{state_among}
use Rattle.line_worker.specs.Worker.{LineWorker, teams_of}
use Rattle.line_worker.specs.Workers.{worker_at, no_worker, graph_of, AreWorkers}
use Rattle.line_workers.specs.declared.link.Seat.{Seat}
use Rattle.line_workers.specs.Link.{seat_of}
use Rattle.line_workers.proofs.AllWorkers.{seat_there, seated}
use Rattle.line_workers.proofs.Lines.{log-of}

-- the worker has the station with this number, and its log is that of station t in the state of the line
pub record HasLog (workers : List LineWorker) (t number : ℕ) (worker : LineWorker) : Type 0 where
  pub there : number < length worker.team.stations
  pub log : (log_of (member worker.team.stations number)).dates ≡ log (state_among (graph_of workers) (teams_of workers)) t

module _ (workers : List LineWorker) (are : AreWorkers workers) (t : ℕ) (there : t < stations (graph_of workers)) where
  at-seat : (let seat : Seat = seat_of (graph_of workers) (length workers) t in HasLog workers t seat.number (worker_at workers seat.worker_number))
  at-seat = record {
    there = (seat_there workers are t there).number;
    log = ap (λ (s : WorkStation). s.log.dates) (seated workers are t there) ∙ sym (log-of workers are t there);
  }

  -- the worker that was read where the seat says has it
  pub read_at_seat : (seat : Seat) → seat ≡ seat_of (graph_of workers) (length workers) t → (worker : LineWorker) → worker ≡ get_or workers seat.worker_number worker → HasLog workers t seat.number worker
  read_at_seat seat is worker read =
      let low : seat.worker_number < length workers = subst (λ (s : Seat). s.worker_number < length workers) (sym is) (seat_there workers are t there).worker_number in
      let at : worker ≡ worker_at workers seat.worker_number = get_or_read workers seat.worker_number worker low read no_worker in
      subst (λ (w : LineWorker). HasLog workers t seat.number w) (sym at) (
      subst (λ (s : Seat). HasLog workers t s.number (worker_at workers s.worker_number)) (sym is) at-seat)
