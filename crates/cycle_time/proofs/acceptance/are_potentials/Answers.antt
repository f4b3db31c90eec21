use Rattle.std.proofs.Common.{ℕ, ◌<◌, List, length, get_or, below_more, sym, ap, ◌∙◌, refl, arith}
use Rattle.std.specs.Prelude.{ℤ, pos, neg_ℤ, ◌≤ℤ◌}
use Rattle.std.proofs.lemmas.Bool.{false≢true}
use Rattle.std.proofs.lemmas.Int.{ints}
use Rattle.line_base.specs.declared.event.Parts.{Parts}
use Rattle.event_graph.specs.Network.{IsGraph, arc, arc_count}
use Rattle.cycle_time.specs.declared.certificate.Certificate.{Certificate}
use Rattle.cycle_time.specs.Certificate.{most_potential, IsSmall}
use Rattle.cycle_time.specs.Weight.{ArePotentials}
use Rattle.cycle_time.proofs.acceptance.are_potentials.Goals as goal

-- the potentials of the two stations of an arc are no greater than a certificate's may be
record AreSmallAt (potentials : List ℤ) (from to : ℕ) : Type 0 where
  from_low : neg_ℤ (pos most_potential) ≤ℤ get_or potentials from (pos 0)
  from_high : get_or potentials from (pos 0) ≤ℤ pos most_potential
  to_low : neg_ℤ (pos most_potential) ≤ℤ get_or potentials to (pos 0)
  to_high : get_or potentials to (pos 0) ≤ℤ pos most_potential

small_at : (g : Parts) (c : Certificate) (a : ℕ) → IsGraph g → IsSmall g c → a < arc_count g → AreSmallAt c.potentials (arc g a).from (arc g a).to
small_at g c a graph small exists =
    let from : (arc g a).from < length c.potentials = omega (arith, graph.starts_exist a exists, small.potential_for_each) in
    let to : (arc g a).to < length c.potentials = omega (arith, graph.ends_exist a exists, small.potential_for_each) in
    record {
      from_low = small.potentials_low (arc g a).from (pos 0) from;
      from_high = small.potentials_high (arc g a).from (pos 0) from;
      to_low = small.potentials_low (arc g a).to (pos 0) to;
      to_high = small.potentials_high (arc g a).to (pos 0) to;
    }

pub loop-a-preserved : goal.loop-a-preserved
loop-a-preserved c =
    let there = rw c.arcs-arc-items.ensures.arcs at c.loop-a-test.true in
    let small = small_at c.args.graph.now c.args.given.now c.loop-a.a c.arcs-arc-items.ensures.graph c.requires there in
    let covered = rw (c.arcs-arc-items.ensures.arcs, c.weight_of-weight.ensures.weight, c.as_slice-potentials.ensures) at (c.is_covered.ensures.0 c.if-not-is_covered.false) in
    below_more _ _ c.loop-a.invariant
    (rw c.as_slice-potentials.ensures (omega (arith, ints, covered, small.from_low, small.from_high, small.to_low, small.to_high)))

-- the potential of the station at which an arc starts
start_small : (c : goal.After-is_covered-arg-in-loop-a-1) → AreSmallAt c.args.given.now.potentials (arc c.args.graph.now c.loop-a.a).from (arc c.args.graph.now c.loop-a.a).to
start_small c =
    small_at c.args.graph.now c.args.given.now c.loop-a.a c.arcs-arc-items.ensures.graph c.requires
    (rw c.arcs-arc-items.ensures.arcs at c.loop-a-test.true)

pub is_covered-requires-clause-start_low : goal.is_covered-requires-clause-start_low
is_covered-requires-clause-start_low c =
    rw (c.as_slice-potentials.ensures, c.arcs-arc-items.ensures.arcs) (omega (arith, ints, (start_small c).from_low, (start_small c).from_high))

pub is_covered-requires-clause-start_high : goal.is_covered-requires-clause-start_high
is_covered-requires-clause-start_high c =
    rw (c.as_slice-potentials.ensures, c.arcs-arc-items.ensures.arcs) (omega (arith, ints, (start_small c).from_low, (start_small c).from_high))

pub is_covered-requires-clause-weight_low : goal.is_covered-requires-clause-weight_low
is_covered-requires-clause-weight_low c = omega (arith, ints, c.weight_of-weight.ensures.low, c.weight_of-weight.ensures.high)

pub is_covered-requires-clause-weight_high : goal.is_covered-requires-clause-weight_high
is_covered-requires-clause-weight_high c = omega (arith, ints, c.weight_of-weight.ensures.low, c.weight_of-weight.ensures.high)

pub returns : goal.returns
returns c = (
  λ yes a exists.
      rw c.as_slice-potentials.ensures at (c.loop-a.invariant a (omega (arith, exists, ap (λ xs. length xs) c.arcs-arc-items.ensures.arcs, c.loop-a-test.false))),
  λ covers. refl,
)

pub returns-then-not-is_covered : goal.returns-then-not-is_covered
returns-then-not-is_covered c =
    let given = c.args.given.now in
    let there = rw c.arcs-arc-items.ensures.arcs at c.loop-a-test.true in
    let small = small_at c.args.graph.now given c.loop-a.a c.arcs-arc-items.ensures.graph c.requires there in
    let covered = λ (are : ArePotentials c.args.graph.now given.time given.cards given.potentials).
    c.is_covered.ensures.1
    (rw (c.as_slice-potentials.ensures, c.arcs-arc-items.ensures.arcs, c.weight_of-weight.ensures.weight)
    (omega (arith, ints, are c.loop-a.a there, small.from_low, small.from_high, small.to_low, small.to_high))) in
    (λ no. absurd (false≢true no), λ are. absurd (false≢true (sym c.if-not-is_covered.true ∙ covered are)))
