use Rattle.std.proofs.Common.{refl, subst, ◌≢◌, ℕ}
use Rattle.std.specs.List.{AllPairs}
use Rattle.std.proofs.lemmas.Bool.{false≢true, iff_false}
use Rattle.std.proofs.lemmas.List.{take_all}
use Rattle.event_graph.specs.Circuit.{starting_stations}
use Rattle.cycle_time.proofs.Circuits.{left_twice, distinct_more}
use Rattle.cycle_time.proofs.circuit.leave_distinct.Goals as goal

pub returns-then-leave : goal.returns-then-leave
returns-then-leave c =
    let found = rw c.arcs-all.ensures.arcs at (c.leave.ensures.0 c.if-leave.true) in (
      λ no. absurd (false≢true no),
      λ distinct. absurd (left_twice c.args.graph.now c.args.arcs.now c.loop-index.index c.loop-index-test.true found distinct),
    )

pub loop-index-preserved : goal.loop-index-preserved
loop-index-preserved c =
    let fresh = rw c.arcs-all.ensures.arcs at (iff_false c.leave.ensures c.if-leave.false) in
    distinct_more c.args.graph.now c.args.arcs.now c.loop-index.index c.loop-index-test.true c.loop-index.invariant fresh

pub returns : goal.returns
returns c =
    let Distinct = AllPairs {X = ℕ} (λ t u. t ≢ u) in
    let whole = take_all c.loop-index.index c.args.arcs.now c.loop-index-test.false in
    (λ yes. subst (λ arcs. Distinct (starting_stations c.args.graph.now arcs)) whole c.loop-index.invariant, λ distinct. refl)
