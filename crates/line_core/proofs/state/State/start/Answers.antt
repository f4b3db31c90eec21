use Rattle.std.proofs.Common.{ℕ, List, [], replicate, sym, ap, ◌∙◌, subst}
use Rattle.std.proofs.lemmas.Result.{err_from_is_err_and}
use Rattle.line_base.specs.declared.event.Parts.{Parts}
use Rattle.event_graph.specs.Network.{stations}
use Rattle.line_core.specs.Run.{IsReached, run_of, IsRunWithRoom}
use Rattle.line_core.proofs.Runs.{run_of-start}
use Rattle.line_core.proofs.state.State.start.Goals as goal

pub returns-clause-start : goal.returns-clause-start
returns-clause-start c =
    let none : Parts → List (List ℕ) = λ g. replicate (stations g) [] in
    ap (λ g. run_of g c.in_ok-logs.logs) (c.of.ensures ∙ c.graph-2.ensures.graph)
    ∙ run_of-start c.args.live.now.graph c.in_ok-logs.logs (c.in_ok-logs.ensures.start ∙ ap none c.graph.ensures.graph)

pub returns-in_err-logs : goal.returns-in_err-logs
returns-in_err-logs c =
    rw (err_from_is_err_and c.from_residual.result c.from_residual.ensures.1).1 (record { start = tt; reached = tt })

pub returns-clause-reached : goal.returns-clause-reached
returns-clause-reached c =
    let same = c.graph.ensures.graph ∙ sym (c.of.ensures ∙ c.graph-2.ensures.graph) in
    subst (λ (g : Parts). IsReached (run_of g c.in_ok-logs.logs)) same c.in_ok-logs.ensures.has_room.run

pub invariant_of-result : goal.invariant_of-result
invariant_of-result c =
    let same = c.graph.ensures.graph ∙ sym (c.of.ensures ∙ c.graph-2.ensures.graph) in
    subst (λ (g : Parts). IsRunWithRoom g c.in_ok-logs.logs) same c.in_ok-logs.ensures.has_room
