-- The best that the arcs into a station give it.
use Rattle.std.proofs.Common.{◌≡◌, ℕ, ◌+◌, ◌-◌, ◌<◌, ◌≤◌, ◌⊎◌, List, length, get_or, subst, refl, inl, inr, arith}
use Rattle.std.specs.List.{All}
use Rattle.std.proofs.lemmas.List.Elements.{All-from_get_or}
use Rattle.line_base.specs.declared.event.Parts.{Parts}
use Rattle.event_graph.specs.Network.{arc, ins, EndsAt}
use Rattle.event_graph.proofs.ArcNumbers.{each_input}
use Rattle.cycle_time.specs.declared.tree.Offer.{Offer}
use Rattle.cycle_time.specs.declared.weights.Weighing.{Weighing}
use Rattle.cycle_time.specs.Search.{gain, loss, IsGiven, IsBetter, IsBestOffer}

-- an arc that gives more than there was before
pub better_given : (g : Parts) (w : Weighing) (P : List ℕ) (a sum lost : ℕ) (before : Offer) → sum ≡ get_or P (arc g a).from 0 + gain g w a → lost ≡ loss g w a → before.potential + lost < sum → IsBetter g w P a before (record { potential = sum - lost; entry = a })
better_given g w P a sum lost before is_sum is_lost more = record {
  covers = omega (arith, is_sum, is_lost, more);
  kept = omega (arith, more);
  cause = inr (record { entry = refl; gives = omega (arith, is_sum, is_lost, more); more = omega (arith, more) });
}

-- an arc that gives no more
pub better_kept : (g : Parts) (w : Weighing) (P : List ℕ) (a sum lost : ℕ) (before : Offer) → sum ≡ get_or P (arc g a).from 0 + gain g w a → lost ≡ loss g w a → sum ≤ before.potential + lost → IsBetter g w P a before before
better_kept g w P a sum lost before is_sum is_lost least =
    record { covers = omega (arith, is_sum, is_lost, least); kept = omega arith; cause = inl refl }

pub best_offer : (g : Parts) (w : Weighing) (P : List ℕ) (t n : ℕ) (offer : Offer) (into : List ℕ) → into ≡ ins g t → length into ≤ n → ((k : ℕ) → k < n → get_or P (arc g (get_or into k 0)).from 0 + gain g w (get_or into k 0) ≤ offer.potential + loss g w (get_or into k 0)) → (offer.potential ≡ get_or P t 0) ⊎ (EndsAt g t offer.entry × IsGiven g w P offer.entry (get_or P t 0) offer) → IsBestOffer g w P t offer
best_offer g w P t n offer into is end covers cause =
    let Covered : ℕ → Type 0 = λ a. get_or P (arc g a).from 0 + gain g w a ≤ offer.potential + loss g w a in
    let listed : All Covered (ins g t) = subst (All Covered) is (All-from_get_or Covered into 0 (λ i low. covers i (omega (arith, low)))) in
    let each : (b : ℕ) → EndsAt g t b → Covered b = λ b at. each_input g t Covered listed b at.0 at.1 in
    elim cause [
      | inl same ↦ inl (same, λ b at. (let c = each b at in omega (arith, c, same)))
      | inr given ↦ inr (record { enters = given.0; gives = given.1.gives; more = given.1.more; best = each })
    ]
