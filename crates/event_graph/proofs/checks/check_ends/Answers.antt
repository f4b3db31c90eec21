use Rattle.std.proofs.Common.{below_more, inl, inr, arith}
use Rattle.event_graph.proofs.checks.check_ends.Goals as goal

pub loop-number-preserved : goal.loop-number-preserved
loop-number-preserved c =
    let arcs = c.as_slice-arc-items.ensures in
    let from = rw arcs at c.if-arc-stations.false in
    let to = rw arcs at c.if-arc-stations-2.false in
    below_more _ _ c.loop-number.invariant
    (λ names.
    elim names [
      | inl past ↦ omega (arith, from, past, c.len-stations.ensures)
      | inr past ↦ omega (arith, to, past, c.len-stations.ensures)
    ])
