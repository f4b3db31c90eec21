use Rattle.std.proofs.Common.{sym, ap, ◌∙◌, arith, subst}
use Rattle.line_base.specs.Roomy.{RoomyLog}
use Rattle.event_graph.specs.Network.{stations}
use Rattle.event_graph.specs.State.{log}
use Rattle.line_core.specs.Run.{Run, IsReached}
use Rattle.line_core.proofs.Runs.{many_logs, log-state_in}
use Rattle.line_core.proofs.state.State.log.Goals as goal

pub get-requires : goal.get-requires
get-requires c =
    omega (arith, many_logs c.self.inside.graph.value c.self.inside.logs c.self.invariant, ap (λ (r : Run). stations r.graph) c.self.view_is, c.requires)

pub returns-clause-log : goal.returns-clause-log
returns-clause-log c =
    c.dates.ensures
    ∙ ap (λ (l : RoomyLog). l.dates) c.get.ensures
    ∙ sym (log-state_in c.self.inside.graph.value c.self.inside.logs c.args.t)
    ∙ ap (λ (r : Run). log r.state c.args.t) c.self.view_is

pub returns-clause-reached : goal.returns-clause-reached
returns-clause-reached c = subst IsReached c.self.view_is c.self.invariant.run
