use Rattle.std.proofs.Common.{List, length, map, ◌++◌, ap, ◌∙◌, arith}
use Rattle.line_worker.specs.contracts.worker.Worker.{the_view}
use Rattle.line_base.specs.Roomy.{RoomyLog, RoomyLogs}
use Rattle.line_worker.specs.Logs.{log_of}
use Rattle.line_worker.specs.Worker.{LineWorker}
use Rattle.std.proofs.lemmas.List.{length-map}
use Rattle.line_worker.proofs.StationCounts.{spare_fits}
use Rattle.line_worker.proofs.worker.Worker.into_logs.Goals as goal

pub give_logs-requires : goal.give_logs-requires
give_logs-requires c =
    let seen = the_view c.self.inside in
    let fits = spare_fits seen c.self.invariant in
    omega (arith, fits, ap length c.into_logs.ensures, length-map seen.team.stations log_of)

pub returns-clause-logs : goal.returns-clause-logs
returns-clause-logs c =
    ap (λ (l : RoomyLogs). l.logs) c.give_logs.ensures
    ∙ ap (λ (l : List RoomyLog). l ++ c.into_logs.result.items) c.self.invariant.spare
    ∙ c.into_logs.ensures
    ∙ ap (λ (w : LineWorker). map log_of w.team.stations) c.self.view_is
