-- Passes one after the other: after k of them no walk of at most k arcs sums to more than the potentials.
use Rattle.std.proofs.Common.{◌≡◌, ℕ, ◌+◌, ◌*◌, ◌<◌, ◌≤◌, List, [], ◌∷◌, length, get_or, sym, ap, subst, arith}
use Rattle.std.proofs.lemmas.List.Elements.{All-weaker}
use Rattle.line_base.specs.declared.event.Parts.{Parts}
use Rattle.event_graph.specs.Network.{IsGraph, arc, arc_count, stations}
use Rattle.event_graph.specs.Circuit.{IsWalk}
use Rattle.cycle_time.specs.declared.weights.Weighing.{Weighing}
use Rattle.cycle_time.specs.Certificate.{most_potential}
use Rattle.cycle_time.specs.Search.{gain, loss, gains, losses, most_before_pass, most_gain, Potentials, IsGrown, IsRaised, Covers, HasRisen, IsWithin, IsSoonReached, CoversWalks, AreFinal}
use Rattle.cycle_time.proofs.Weighed.{gains-cons, losses-cons}

-- after a number of passes, fewer than there are stations
pub record IsAfter (g : Parts) (w : Weighing) (p : Potentials) (turn : ℕ) : Type 0 where
  pub grown : IsGrown g w p
  pub covers : CoversWalks g w p turn
  pub within : IsWithin (turn * (512 * most_gain)) p
  pub early : turn < stations g

-- a walk of an arc at least is a walk and a last arc
record IsSplit (g : Parts) (w : Weighing) (s t : ℕ) (arcs : List ℕ) : Type 0 where
  before : List ℕ
  last : ℕ
  walk : IsWalk g s before (arc g last).from
  exists : last < arc_count g
  ends : (arc g last).to ≡ t
  shorter : length before + 1 ≡ length arcs
  gained : gains g w before + gain g w last ≡ gains g w arcs
  lost : losses g w before + loss g w last ≡ losses g w arcs

split : (g : Parts) (w : Weighing) (s t a : ℕ) (arcs : List ℕ) → IsWalk g s (a ∷ arcs) t → IsSplit g w s t (a ∷ arcs)
split g w s t a [] walk = record {
  before = [];
  last = a;
  walk = sym walk.1;
  exists = walk.0;
  ends = walk.2;
  shorter = omega arith;
  gained = omega (arith, gains-cons g w a []);
  lost = omega (arith, losses-cons g w a []);
}
split g w s t a (b ∷ arcs) walk =
    let rest = split g w (arc g a).to t b arcs walk.2 in
    record {
      before = a ∷ rest.before;
      last = rest.last;
      walk = (walk.0, walk.1, rest.walk);
      exists = rest.exists;
      ends = rest.ends;
      shorter = omega (arith, rest.shorter);
      gained = omega (arith, rest.gained, gains-cons g w a rest.before, gains-cons g w a (b ∷ arcs));
      lost = omega (arith, rest.lost, losses-cons g w a rest.before, losses-cons g w a (b ∷ arcs));
    }

covers_more : (g : Parts) (w : Weighing) (old new : Potentials) (turn : ℕ) → IsGraph g → CoversWalks g w old turn → IsRaised g old new → Covers g w old new → CoversWalks g w new (turn + 1)
covers_more g w old new turn graph before raised covers s t [] walk there short = omega arith
covers_more g w old new turn graph before raised covers s t (a ∷ arcs) walk there short =
    let cut = split g w s t a arcs walk in
    let from = (arc g cut.last).from in
    let first = before s from cut.before cut.walk (graph.starts_exist cut.last cut.exists) (omega (arith, cut.shorter)) in
    omega (arith, first, covers cut.last cut.exists, cut.gained, cut.lost, ap (λ u. get_or new.potentials u 0) cut.ends)

pub after_none : (g : Parts) (w : Weighing) (p : Potentials) → 1 ≤ stations g → IsGrown g w p → IsWithin 0 p → IsAfter g w p 0
after_none g w p some grown zero_all = record {
  grown = grown;
  covers = λ s t arcs walk there short. none_gained arcs (omega arith) t;
  within = All-weaker (λ v. v ≤ 0) (λ v. v ≤ 0 * (512 * most_gain)) (λ v h. omega (arith, h)) p.potentials zero_all;
  early = omega arith;
}
  where
    none_gained : (arcs : List ℕ) → length arcs ≤ 0 → (t : ℕ) → gains g w arcs ≤ get_or p.potentials t 0 + losses g w arcs
    none_gained [] none t = omega arith
    none_gained (a ∷ arcs) none t = absurd (omega (arith, none))

-- where a station rose and yet comes from a short walk, there are more stations than passes
pub after_more : (g : Parts) (w : Weighing) (old new : Potentials) (turn t : ℕ) → IsGraph g → IsAfter g w old turn → IsGrown g w new → IsRaised g old new → Covers g w old new → ((most : ℕ) → IsWithin most old → IsWithin (most + 512 * most_gain) new) → HasRisen g old new t → IsSoonReached g w new t → IsAfter g w new (turn + 1)
after_more g w old new turn t graph h grown raised covers within risen soon = record {
  grown = grown;
  covers = covers_more g w old new turn graph h.covers raised covers;
  within = All-weaker (λ v. v ≤ turn * (512 * most_gain) + 512 * most_gain) (λ v. v ≤ (turn + 1) * (512 * most_gain)) (λ v fits. omega (arith, fits)) new.potentials (within (turn * (512 * most_gain)) h.within);
  early = (let late : stations g ≤ turn + 1 → ⊥ = λ end. omega (arith, h.covers soon.start t soon.walk soon.ends risen.exists (omega (arith, soon.short)), soon.sum, risen.more) in omega (arith, h.early, late));
}

pub small_within : (g : Parts) (w : Weighing) (p : Potentials) (turn : ℕ) → stations g ≤ 512 → IsAfter g w p turn → IsWithin most_before_pass p
small_within g w p turn few h =
    All-weaker (λ v. v ≤ turn * (512 * most_gain)) (λ v. v ≤ most_before_pass) (λ v fits. omega (arith, fits, few, h.early)) p.potentials h.within

pub final : (g : Parts) (w : Weighing) (old new : Potentials) (turn : ℕ) → IsGraph g → stations g ≤ 512 → IsAfter g w old turn → IsGrown g w new → Covers g w old new → new ≡ old → AreFinal g w new.potentials
final g w old new turn graph few h grown covers rests = record {
  potential_for_each = grown.potential_for_each;
  settled = λ a exists. omega (arith, covers a exists, ap (λ (p : Potentials). get_or p.potentials (arc g a).from 0) rests);
  reached = grown.reached;
  small = All-weaker (λ v. v ≤ most_before_pass) (λ v. v ≤ most_potential) (λ v fits. omega (arith, fits)) new.potentials (subst (IsWithin most_before_pass) (sym rests) (small_within g w old turn few h));
}
