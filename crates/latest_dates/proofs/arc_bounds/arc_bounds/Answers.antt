use Rattle.std.proofs.Common.{ℕ, ◌<◌, List, [], ◌∷◌, length, length-append, sym, ap, subst, arith}
use Rattle.std.specs.Prelude.{slice_index_or}
use Rattle.latest_dates.specs.declared.arc_bounds.ArcBound.{ArcBound}
use Rattle.latest_dates.specs.ArcBounds.{IsBoundOf}
use Rattle.latest_dates.proofs.ArcBounds.{bounds-next}
use Rattle.latest_dates.proofs.arc_bounds.arc_bounds.Goals as goal

pub loop-a-preserved : goal.loop-a-preserved
loop-a-preserved c =
    let g = c.args.graph.now in
    let bounds = c.loop-a.bounds.items in
    let before = c.loop-a.invariant in
    let this = subst (λ k. IsBoundOf g k c.arc_bound.result) (sym before.count) c.arc_bound.ensures in
    let added = c.in_ok-push.ensures.items in
    record {
      count = omega (arith, ap length added, length-append bounds (c.arc_bound.result ∷ []), before.count);
      each = subst (λ (l : List ArcBound). (k : ℕ) (d : ArcBound) → k < length l → IsBoundOf g k (slice_index_or l k d)) (sym added) (bounds-next g bounds c.arc_bound.result before.each this);
    }

pub loop-a-init : goal.loop-a-init
loop-a-init c =
    let none = ap length c.new-bounds.ensures.items in
    record { count = none; each = λ k d below. absurd (omega (arith, below, none)) }

pub returns : goal.returns
returns c =
    record {
      one_for_each = omega (arith, c.loop-a.invariant.count, c.loop-a-test.false, ap length c.arcs.ensures.arcs);
      each = c.loop-a.invariant.each;
    }
