use Rattle.std.proofs.Common.{◌+◌, ◌*◌, ◌<◌, ◌≤◌, sym, subst, arith}
use Rattle.std.proofs.lemmas.Bool.{MatchBool-at_true, MatchBool-at_false}
use Rattle.std.proofs.lemmas.List.Elements.{All-weaker}
use Rattle.event_graph.specs.Network.{arc, stations}
use Rattle.cycle_time.specs.Certificate.{most_potential}
use Rattle.cycle_time.specs.Search.{most_before_pass, most_gain, IsRaisedAt, IsKeptAt}
use Rattle.cycle_time.proofs.Passes.{IsPassed, passed_none, passed_raised, passed_rest, step_within}
use Rattle.cycle_time.proofs.tree.Tree.pass.Goals as goal
use Rattle.cycle_time.proofs.tree.Tree.pass.Goals.{then-raise, else-raise}

pub loop-step-init : goal.loop-step-init
loop-step-init c = passed_none c.args.graph.now c.args.weights.now.weighing c.args.sweep c.args.self.now c.requires.grown

pub raise-requires-clause-small : goal.raise-requires-clause-small
raise-requires-clause-small c =
    let h = c.loop-step.invariant in
    let few = c.stations-stations.ensures.limits.few_stations in
    All-weaker (λ v. v ≤ most_before_pass + c.loop-step.step * most_gain) (λ v. v ≤ most_potential) (λ v fits. omega (arith, fits, few, c.loop-step-test.true)) c.loop-step.self.potentials (h.within most_before_pass c.requires.small)

pub loop-step-preserved : goal.loop-step-preserved
loop-step-preserved c =
    let g = c.args.graph.now in
    let w = c.args.weights.now.weighing in
    let all = c.stations-stations.ensures in
    let old = c.args.self.now in
    let p = c.loop-step.self in
    let p' = c.raise.new.self in
    let t = c.station-t.result in
    let step = c.loop-step.step in
    let here = rw all.count at c.station-t.ensures.at in
    let there : t < stations g = omega (arith, c.station-t.ensures.exists, all.count) in
    let Passed = IsPassed g w c.args.sweep old p' (step + 1) in
    elim c.if-raise.branch [
      | then-raise b ↦
          (let at = MatchBool-at_true (IsRaisedAt g w p p' t) (IsKeptAt g w p p' t) b.if-raise.true c.raise.ensures in
          subst Passed (sym b.last-is) (passed_raised g w c.args.sweep old p p' step t c.loop-step.last all.graph c.requires.weights.gains_small c.loop-step.invariant there here at))
      | else-raise b ↦
          (let at = MatchBool-at_false (IsRaisedAt g w p p' t) (IsKeptAt g w p p' t) b.if-raise.false c.raise.ensures in
          subst Passed (sym b.last-is) (passed_rest g w c.args.sweep old p p' step t c.loop-step.last all.graph c.loop-step.invariant there here at))
    ]

pub returns-clause-covers : goal.returns-clause-covers
returns-clause-covers c = λ a exists.
    (let g = c.args.graph.now in
    let all = c.stations-stations.ensures in
    let below = step_within c.args.sweep (stations g) (arc g a).to (all.graph.ends_exist a exists) in
    c.loop-step.invariant.covers a exists (omega (arith, below, c.loop-step-test.false, all.count)))

pub returns-clause-within : goal.returns-clause-within
returns-clause-within c = λ most all.
    (let few = c.stations-stations.ensures.limits.few_stations in
    All-weaker (λ v. v ≤ most + c.loop-step.step * most_gain) (λ v. v ≤ most + 512 * most_gain) (λ v fits. omega (arith, fits, few, c.loop-step.auto.step-end, c.stations-stations.ensures.count)) c.loop-step.self.potentials (c.loop-step.invariant.within most all))
