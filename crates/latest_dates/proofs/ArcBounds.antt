-- How the arcs bound the dates at their starts, as the pass keeps it.
use Rattle.std.proofs.Common.{◌≡◌, ℕ, ◌+◌, ◌*◌, ◌-◌, ◌<◌, ◌≤◌, cond, get_or, List, [], ◌∷◌, ◌++◌, length, refl, sym, ap, ◌∙◌, subst, arith, inl, inr, length-append}
use Rattle.std.specs.Prelude.{Option, None, Some, option_map}
use Rattle.std.proofs.lemmas.Bool.{cases_lt}
use Rattle.std.proofs.lemmas.List.{get_or_push, get_or_append_left}
use Rattle.line_base.specs.declared.event.Parts.{Parts}
use Rattle.line_base.specs.declared.times.Times.{Times}
use Rattle.line_base.specs.declared.times.Times.TheVariants.{Fixed, Each}
use Rattle.line_base.specs.Times.{time_at}
use Rattle.event_graph.specs.Network.{arc, jobs, time, delay}
use Rattle.event_graph.specs.Term.{work}
use Rattle.event_graph.specs.Varying.{IsList, Varies}
use Rattle.latest_dates.specs.declared.arc_bounds.ArcBound.{ArcBound}
use Rattle.latest_dates.specs.ArcBounds.{AddsToAll, IsBoundOf}
use Rattle.latest_dates.specs.Found.{date_index, LeavesTime}
use Rattle.latest_dates.specs.Latest.{LatestTable, IsNoLater, put_by, bound}
use Rattle.latest_dates.proofs.EarliestBounds.{bound-read, bound-past}

-- where the times of a station are no list, it takes as long for each job
time_at-same : (times : Times) (n m : ℕ) → (IsList times → ⊥) → time_at times n ≡ time_at times m
time_at-same (Fixed w) n m fixed = refl
time_at-same (Each ws) n m fixed = absurd (fixed tt)

pub work-same : (g : Parts) (a n m : ℕ) → (Varies g (arc g a).to → ⊥) → work g a n ≡ work g a m
unfolding work time
work-same g a n m fixed =
    ap (λ w. cond (arc g a).worked w 0) (time_at-same (get_or g.times (arc g a).to (Fixed 0)) n m fixed)

-- what is added to each date is added for each job
pub added-kept : (g : Parts) (a n : ℕ) (to_all : Option ℕ) (added : ℕ) → to_all ≡ Some added → AddsToAll g a to_all → added ≡ delay g a + work g a n
added-kept g a n to_all added is all = (subst (AddsToAll g a) is all) n

-- the next arc
pub bounds-next : (g : Parts) (bounds : List ArcBound) (b : ArcBound) → ((a : ℕ) (d : ArcBound) → a < length bounds → IsBoundOf g a (get_or bounds a d)) → IsBoundOf g (length bounds) b → (a : ℕ) (d : ArcBound) → a < length (bounds ++ b ∷ []) → IsBoundOf g a (get_or (bounds ++ b ∷ []) a d)
bounds-next g bounds b before this a d low =
    elim (cases_lt a (length bounds)) [
      | inl earlier ↦ subst (IsBoundOf g a) (sym (get_or_append_left bounds (b ∷ []) d a earlier)) (before a d earlier)
      | inr now ↦
          let at : length bounds ≡ a = omega (arith, length-append bounds (b ∷ [])) in
          subst (IsBoundOf g a) (sym (get_or_push bounds b d a at)) (subst (λ k. IsBoundOf g k b) at this)
    ]

module _ (g : Parts) (y : LatestTable) (n a : ℕ) (b : ArcBound) (is : IsBoundOf g a b) where
  -- the index that is looked at
  pub date_index-read : n + b.tokens ≤ jobs g → b.first + (n + b.tokens - 1) ≡ date_index g (arc g a).to (n + (arc g a).tokens)
  unfolding date_index
  date_index-read inside =
      ap (λ k. k + (n + b.tokens - 1)) is.first ∙ ap (λ k. (arc g a).to * jobs g + (n + k - 1)) is.tokens

  -- the date there leaves time
  pub leaves-kept : (o : Option ℕ) (added : ℕ) → n + b.tokens ≤ jobs g → o ≡ y (arc g a).to (n + (arc g a).tokens) → added ≡ delay g a + work g a (n + b.tokens) → LeavesTime g y n a → IsNoLater (Some added) o
  leaves-kept o added inside at adds leaves =
      let there = leaves (subst (λ k. n + k ≤ jobs g) is.tokens inside) in
      let more : added ≡ delay g a + work g a (n + (arc g a).tokens) = adds ∙ ap (λ k. delay g a + work g a (n + k)) is.tokens in
      subst (λ k. IsNoLater (Some k) o) (sym more) (subst (IsNoLater (Some (delay g a + work g a (n + (arc g a).tokens)))) (sym at) there)

  less_put : (m added : ℕ) (o : Option ℕ) → added ≡ delay g a + work g a m → option_map (λ date. date - added) o ≡ put_by g a m o
  less_put m added None adds = refl
  less_put m added (Some date) adds = ap (λ k. Some (date - k)) adds

  -- and less that time it is the bound
  pub bound-kept : (o : Option ℕ) (added : ℕ) → n + b.tokens ≤ jobs g → o ≡ y (arc g a).to (n + (arc g a).tokens) → added ≡ delay g a + work g a (n + b.tokens) → option_map (λ date. date - added) o ≡ bound g y n a
  bound-kept o added inside at adds =
      let within : n + (arc g a).tokens ≤ jobs g = subst (λ k. n + k ≤ jobs g) is.tokens inside in
      let more : added ≡ delay g a + work g a (n + (arc g a).tokens) = adds ∙ ap (λ k. delay g a + work g a (n + k)) is.tokens in
      less_put (n + (arc g a).tokens) added o more ∙ ap (put_by g a (n + (arc g a).tokens)) at ∙ sym (bound-read g y n a within)

  pub bound-none : jobs g < n + b.tokens → None ≡ bound g y n a
  bound-none past = sym (bound-past g y n a (subst (λ k. jobs g < n + k) is.tokens past))
