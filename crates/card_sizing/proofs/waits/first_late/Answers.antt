use Rattle.std.proofs.Common.{◌≡◌, ℕ, ◌+◌, ◌-◌, ◌≤◌, refl, ap, ◌∙◌, subst, arith, ⊎_elim}
use Rattle.std.proofs.lemmas.Bool.{cases_lt}
use Rattle.event_graph.specs.Network.{stations, jobs}
use Rattle.card_sizing.specs.Serving.{wait_until, NoneWaitsLonger}
use Rattle.card_sizing.proofs.waits.first_late.Goals as goal

-- nor does the next job, which waits this long
none_longer : (wait : ℕ → ℕ) (done may long : ℕ) → NoneWaitsLonger wait done may → wait (done + 1) ≡ long → long ≤ may → NoneWaitsLonger wait (done + 1) may
none_longer wait done may long before is few n from_one within =
    ⊎_elim
    (λ early. before n from_one (omega (arith, early)))
    (λ late.
    let same : done + 1 ≡ n = omega (arith, late, within) in
    subst (λ m. wait m ≤ may) same (omega (arith, is, few)))
    (cases_lt n (done + 1))

pub loop-done-init : goal.loop-done-init
loop-done-init c = record {
  graph = refl;
  fired = c.requires.none_fired;
  reached = c.requires.reached;
  none = λ x least n from_one past. absurd (omega (arith, from_one, past));
}

pub loop-done-preserved : goal.loop-done-preserved
loop-done-preserved c =
    let before = c.loop-done.invariant in
    record {
      graph = c.fire_each.ensures.graph ∙ before.graph;
      fired = c.fire_each.ensures.fired;
      reached = c.fire_each.ensures.reached;
      none = λ x least. none_longer (wait_until x (stations c.args.live.now.graph - 1)) c.loop-done.done c.args.may c.last_wait-wait.result (before.none x least) (c.last_wait-wait.ensures x least) c.if-wait-may.false;
    }

pub returns-then-wait-may-clause-first : goal.returns-then-wait-may-clause-first
returns-then-wait-may-clause-first c x least = record {
  from_one = omega arith;
  exists = omega (arith, c.loop-done-test.true, c.jobs-done-end.ensures.count, ap jobs c.graph.ensures.graph);
  waits = c.last_wait-wait.ensures x least;
  longer = c.if-wait-may.true;
  first = λ n from_one early. c.loop-done.invariant.none x least n from_one (omega (arith, early));
}

pub returns-then-wait-may-clause-stops : goal.returns-then-wait-may-clause-stops
returns-then-wait-may-clause-stops c = c.fire_each.ensures.fired

pub returns-clause-first : goal.returns-clause-first
returns-clause-first c x least n from_one within =
    c.loop-done.invariant.none x least n from_one (omega (arith, within, c.loop-done-test.false, c.jobs-done-end.ensures.count, ap jobs c.graph.ensures.graph))
