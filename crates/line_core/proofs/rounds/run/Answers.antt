use Rattle.std.proofs.Common.{◌≡◌, ap, sym, ◌∙◌, subst, arith}
use Rattle.std.proofs.lemmas.Result.{err_from_is_err_and}
use Rattle.event_graph.specs.Network.{jobs}
use Rattle.line_core.specs.Run.{Run}
use Rattle.line_core.specs.Round.{HasFired}
use Rattle.line_core.proofs.RoundLemmas.{begun-has_fired}
use Rattle.line_core.proofs.rounds.run.Goals as goal

pub loop-done-init : goal.loop-done-init
loop-done-init c = record {
  graph = ap (λ (r : Run). r.graph) c.in_ok-state.ensures.start;
  fired = subst (λ (r : Run). HasFired r 0) (sym c.in_ok-state.ensures.start) (begun-has_fired c.args.live.now.graph);
  reached = c.in_ok-state.ensures.reached;
}

pub loop-done-preserved : goal.loop-done-preserved
loop-done-preserved c = record {
  graph = c.fire_each.ensures.graph ∙ c.loop-done.invariant.graph;
  fired = c.fire_each.ensures.fired;
  reached = c.fire_each.ensures.reached;
}

pub returns-in_err-state : goal.returns-in_err-state
returns-in_err-state c =
    let p = err_from_is_err_and c.from_residual.result c.from_residual.ensures.1 in
    rw p.1 (record { made_for = tt; finished = tt; reached = tt })

pub returns : goal.returns
returns c =
    let at = c.loop-done in
    let all : at.done ≡ jobs at.state.graph = omega (arith, c.loop-done-test.false, at.auto.done-end, c.jobs-done-end.ensures.count, ap jobs (c.graph.ensures.graph ∙ sym at.invariant.graph)) in
    record {
      made_for = at.invariant.graph;
      finished = λ t there. at.invariant.fired t there ∙ all;
      reached = at.invariant.reached;
    }
