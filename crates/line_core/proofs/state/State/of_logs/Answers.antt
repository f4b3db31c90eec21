use Rattle.std.proofs.Common.{ap, ◌∙◌, sym}
use Rattle.std.proofs.lemmas.Result.{err_from_is_err_and}
use Rattle.line_base.specs.declared.event.Parts.{Parts}
use Rattle.line_base.specs.Roomy.{dates_of}
use Rattle.event_graph.specs.Network.{stations}
use Rattle.line_core.specs.Parts.{first}
use Rattle.line_core.specs.Marked.{marked_refusals}
use Rattle.line_core.proofs.MarkedLogs.{refuses_marked, tokens_alone, reached_marked}
use Rattle.line_core.proofs.state.State.of_logs.Goals as goal

pub check_marked-requires-clause-logs : goal.check_marked-requires-clause-logs
check_marked-requires-clause-logs c = record { a_log_each = c.requires.a_log_each ∙ ap stations (sym c.graph.ensures.graph); early = c.requires.early }

pub returns-in_err-check_marked-clause-refused : goal.returns-in_err-check_marked-clause-refused
returns-in_err-check_marked-clause-refused c =
    let p = err_from_is_err_and c.from_residual.result c.from_residual.ensures.1 in
    let found = ap (λ (g : Parts). first (marked_refusals g (dates_of c.args.logs) c.args.marking.now)) (sym c.graph.ensures.graph) ∙ c.in_err-check_marked.ensures in
    rw (p.1, p.2) (refuses_marked c.args.live.now.graph (dates_of c.args.logs) c.args.marking.now _ found)

pub of_reached-requires-clause-reached : goal.of_reached-requires-clause-reached
of_reached-requires-clause-reached c =
    let none = ap (λ (g : Parts). marked_refusals g (dates_of c.args.logs) c.args.marking.now) (sym c.graph.ensures.graph) ∙ c.in_ok-check_marked.ensures in
    reached_marked c.args.live.now c.graph.ensures.ranked c.args.logs c.args.marking.now c.requires.a_log_each c.requires.early none

pub returns-clause-tokens : goal.returns-clause-tokens
returns-clause-tokens c =
    let none = ap (λ (g : Parts). marked_refusals g (dates_of c.args.logs) c.args.marking.now) (sym c.graph.ensures.graph) ∙ c.in_ok-check_marked.ensures in
    tokens_alone c.args.live.now.graph (dates_of c.args.logs) c.args.marking.now none
