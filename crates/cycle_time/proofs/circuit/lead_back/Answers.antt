use Rattle.std.proofs.Common.{subst}
use Rattle.std.proofs.lemmas.Bool.{false≢true, eqb-true, eq-eqb}
use Rattle.std.proofs.lemmas.List.{take_all}
use Rattle.event_graph.specs.Circuit.{IsWalk}
use Rattle.cycle_time.proofs.Circuits.{walk_step, walk_ends, leads_nowhere}
use Rattle.cycle_time.proofs.circuit.lead_back.Goals as goal

pub returns-then-arc-at : goal.returns-then-arc-at
returns-then-arc-at c =
    let nowhere = leads_nowhere c.args.graph.now c.args.start c.loop-a.at c.loop-a.a-index c.args.arcs.now c.loop-a-test.true c.loop-a.invariant
    (rw c.arcs-all.ensures.arcs at c.if-arc-at.true) in
    (λ no. absurd (false≢true no), λ back. absurd (nowhere c.args.start back))

pub loop-a-preserved : goal.loop-a-preserved
loop-a-preserved c =
    rw c.arcs-all.ensures.arcs
    (walk_step c.args.graph.now c.args.start c.loop-a.at c.loop-a.a-index c.args.arcs.now c.loop-a-test.true c.loop-a.invariant (c.requires c.loop-a.a-index 0 c.loop-a-test.true)
    (rw c.arcs-all.ensures.arcs at c.if-arc-at.false))

pub returns : goal.returns
returns c =
    let g = c.args.graph.now in
    let start = c.args.start in
    let whole = take_all c.loop-a.a-index c.args.arcs.now c.loop-a-test.false in
    let walk = subst (λ arcs. IsWalk g start arcs c.loop-a.at) whole c.loop-a.invariant in (
      λ same. subst (IsWalk g start c.args.arcs.now) (eqb-true c.loop-a.at start same) walk,
      λ back. eq-eqb c.loop-a.at start (walk_ends g start c.loop-a.at start c.args.arcs.now walk back),
    )
