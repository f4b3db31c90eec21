use Rattle.std.proofs.Common.{◌≡◌, List, map, ◌++◌, ap, ◌∙◌, subst}
use Rattle.std.specs.Prelude.{OnOk}
use Rattle.line_base.specs.Roomy.{RoomyLog, RoomyLogs}
use Rattle.line_worker.specs.Logs.{copy_of, copy_with}
use Rattle.line_worker.specs.contracts.worker.Worker.{the_view}
use Rattle.line_worker.specs.Worker.{LineWorker}
use Rattle.line_worker.proofs.StationCounts.{dates-few}
use Rattle.line_worker.proofs.Posts.{copies-map, logs-few}
use Rattle.line_worker.proofs.worker.Worker.copy_logs.Goals as goal

pub returns : goal.returns
returns c =
    let logs = c.args.logs.now in
    let copies : map (copy_with c.self.inside.target) c.logs.result.now.items ≡ map (copy_of c.args.self.now.target) c.args.self.now.team.stations =
    ap (map (copy_with c.self.inside.target)) c.logs.ensures
    ∙ copies-map c.self.inside.target c.self.inside.team.stations
    ∙ ap (λ (w : LineWorker). map (copy_of w.target) w.team.stations) c.self.view_is in
    subst (λ (l : List RoomyLog). OnOk c.copy_logs.result (c.copy_logs.new.logs ≡ (let r : RoomyLogs = record logs { logs = logs.logs ++ l } in r))) copies c.copy_logs.ensures

pub copy_logs-requires-clause-few : goal.copy_logs-requires-clause-few
copy_logs-requires-clause-few c =
    let seen = the_view c.self.inside in
    logs-few c.logs.result.now.items seen.team.stations c.self.inside.target c.logs.ensures (λ i low. dates-few seen i c.self.invariant low)
