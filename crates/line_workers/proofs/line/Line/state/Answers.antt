use Rattle.std.proofs.Common.{List, ap, ◌∙◌, subst}
use Rattle.event_graph.specs.Network.{jobs}
use Rattle.line_worker.specs.Worker.{LineWorker, teams_of}
use Rattle.line_worker.specs.Workers.{graph_of}
use Rattle.line_workers.specs.Line.{IsLine}
use Rattle.line_worker.specs.Logs.{copy_of}
use Rattle.line_workers.specs.Close.{copies_among}
use Rattle.line_workers.proofs.Lines.{at_rest_is_line}
use Rattle.line_workers.proofs.LogsGiven.{Closes, closes, copies_keep}
use Rattle.line_workers.proofs.line.Line.state.Goals as goal
use Rattle.line_workers.proofs.line.Line.state.Goals.{In_ok-logs}

-- what the copies come to
copied : (c : In_ok-logs) → Closes c.args.live.now c.args.self.now c.in_ok-logs.logs
copied c =
    let workers = c.self.inside.workers.items in
    closes (copy_of (jobs (graph_of workers))) workers c.self.inside.made c.args.self.now c.self.view_is c.self.invariant.rest (copies_keep workers) c.args.live.now c.requires.made_for c.in_ok-logs.logs (
    c.in_ok-logs.ensures ∙ ap (λ (l : List LineWorker). copies_among (graph_of l) (teams_of l)) c.deref.ensures.value)

pub of_reached-requires-clause-reached : goal.of_reached-requires-clause-reached
of_reached-requires-clause-reached c = (copied c).reached

pub of_reached-requires-clause-room : goal.of_reached-requires-clause-room
of_reached-requires-clause-room c = (copied c).room

pub returns-clause-state : goal.returns-clause-state
returns-clause-state c = c.of_reached.ensures.state ∙ (copied (goal.at.returns-clause-state c).In_ok-logs).state

pub returns-clause-line : goal.returns-clause-line
returns-clause-line c = subst IsLine c.self.view_is (at_rest_is_line c.self.inside.workers.items c.self.inside.made c.self.invariant.rest)

pub returns-in_err-logs-clause-line : goal.returns-in_err-logs-clause-line
returns-in_err-logs-clause-line c = subst IsLine c.self.view_is (at_rest_is_line c.self.inside.workers.items c.self.inside.made c.self.invariant.rest)
