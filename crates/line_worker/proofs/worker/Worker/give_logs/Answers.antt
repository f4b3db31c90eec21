use Rattle.std.proofs.Common.{List, map, ◌++◌, ap, ◌∙◌}
use Rattle.line_base.specs.Roomy.{RoomyLog, RoomyLogs}
use Rattle.line_worker.specs.Logs.{log_of}
use Rattle.line_worker.specs.Worker.{LineWorker}
use Rattle.line_worker.proofs.worker.Worker.give_logs.Goals as goal

pub returns : goal.returns
returns c =
    let logs = c.args.logs.now in
    c.give_logs.ensures
    ∙ ap (λ (l : List RoomyLog). (let r : RoomyLogs = record logs { logs = logs.logs ++ l } in r))
    (c.into_logs.ensures ∙ ap (λ (w : LineWorker). map log_of w.team.stations) c.self.view_is)
