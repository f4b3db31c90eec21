use Rattle.std.proofs.Common.{◌∙◌, sym, subst}
use Rattle.event_graph.specs.Table.{date_in}
use Rattle.event_graph.specs.Least.{IsLeast}
use Rattle.line_core.specs.Run.{Run}
use Rattle.line_workers.specs.Line.{IsLine}
use Rattle.line_worker.specs.Logs.{log_of}
use Rattle.line_workers.proofs.Lines.{at_rest_is_line}
use Rattle.line_workers.proofs.LogsGiven.{closes, logs_keep, line_is_least}
use Rattle.line_workers.proofs.line.Line.close.Goals as goal

pub of_reached-requires-clause-reached : goal.of_reached-requires-clause-reached
of_reached-requires-clause-reached c =
    let workers = c.self.inside.workers.items in
    (closes log_of workers c.self.inside.made c.args.self c.self.view_is c.self.invariant.rest (logs_keep workers c.self.invariant.rest.whole) c.args.live.now c.requires.made_for c.logs_of-logs.result c.logs_of-logs.ensures).reached

pub of_reached-requires-clause-room : goal.of_reached-requires-clause-room
of_reached-requires-clause-room c =
    let workers = c.self.inside.workers.items in
    (closes log_of workers c.self.inside.made c.args.self c.self.view_is c.self.invariant.rest (logs_keep workers c.self.invariant.rest.whole) c.args.live.now c.requires.made_for c.logs_of-logs.result c.logs_of-logs.ensures).room

pub returns-clause-state : goal.returns-clause-state
returns-clause-state c =
    let workers = c.self.inside.workers.items in
    c.of_reached.ensures.state
    ∙ (closes log_of workers c.self.inside.made c.args.self c.self.view_is c.self.invariant.rest (logs_keep workers c.self.invariant.rest.whole) c.args.live.now c.requires.made_for c.logs_of-logs.result c.logs_of-logs.ensures).state

pub returns-clause-least : goal.returns-clause-least
returns-clause-least c =
    let self = c.args.self in
    let is : IsLine self = subst IsLine c.self.view_is (at_rest_is_line c.self.inside.workers.items c.self.inside.made c.self.invariant.rest) in
    λ finished. subst (λ (r : Run). IsLeast self.live.graph (date_in r.state.logs)) (sym (returns-clause-state c)) (line_is_least self is finished)
