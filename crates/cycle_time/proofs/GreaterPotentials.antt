-- A station gets a greater potential: what holds of the potentials in the making goes on to hold.
use Rattle.std.proofs.Common.{◌≡◌, ◌≢◌, ℕ, ◌+◌, ◌<◌, ◌≤◌, ◌⊎◌, List, [], ◌∷◌, ◌++◌, length, get_or, set, replicate, refl, sym, ap, ◌∙◌, subst, inl, inr, arith}
use Rattle.std.proofs.lemmas.Bool.{cases_eq}
use Rattle.std.proofs.lemmas.List.{length-set, length-replicate, get_or-replicate, get_or-set_same, get_or-set_other}
use Rattle.std.proofs.lemmas.List.Elements.{All-head, All-tail, All-cons}
use Rattle.std.proofs.lemmas.List.Sums.{sum_by_push}
use Rattle.line_base.specs.declared.event.Parts.{Parts}
use Rattle.event_graph.specs.Network.{IsGraph, arc, arc_count, stations}
use Rattle.event_graph.specs.Circuit.{IsWalk}
use Rattle.cycle_time.specs.declared.weights.Weighing.{Weighing}
use Rattle.cycle_time.specs.Search.{gain, loss, gains, losses, Potentials, AreEntries, IsGrown, IsBest, with_potential}
use Rattle.event_graph.proofs.Walks.{walk_push}
use Rattle.cycle_time.proofs.Weighed.{gains-cons, losses-cons}

-- no station has an entry, and each potential is 0
pub grown_none : (g : Parts) (w : Weighing) → IsGraph g → IsGrown g w (record { potentials = replicate (stations g) 0; entries = replicate (stations g) (arc_count g) })
grown_none g w graph =
    let T = stations g in
    let A = arc_count g in
    let zero_at : (t : ℕ) → t < T → get_or (replicate T 0) t 0 ≡ 0 = λ t exists. get_or-replicate T t 0 0 exists in
    let free_at : (t : ℕ) → t < T → get_or (replicate T A) t 0 ≡ A = λ t exists. get_or-replicate T t A 0 exists in
    record {
      potential_for_each = length-replicate T 0;
      entry_for_each = length-replicate T A;
      enters = λ t exists low. absurd (omega (arith, free_at t exists));
      comes = λ t exists low. absurd (omega (arith, free_at t exists));
      grounded = λ t exists high. zero_at t exists;
      reached = λ t exists. record { start = t; walk = []; ends = refl; sum = omega (arith, zero_at t exists) };
      heavier = λ s arcs some walk entries. absurd (no_entry arcs s s some walk entries);
    }
  where
    no_entry : (arcs : List ℕ) (s u : ℕ) → 0 < length arcs → IsWalk g s arcs u → AreEntries g (replicate (stations g) (arc_count g)) arcs → ⊥
    no_entry [] s u some walk entries = omega (arith, some)
    no_entry (a ∷ arcs) s u some walk entries =
        let is = All-head (λ b. get_or (replicate (stations g) (arc_count g)) (arc g b).to 0 ≡ b) a arcs entries in
        omega (arith, is, walk.0, get_or-replicate (stations g) (arc g a).to (arc_count g) 0 (graph.ends_exist a walk.0))

-- a potential where one was raised
pub raised_up : (ps : List ℕ) (t v : ℕ) → t < length ps → get_or ps t 0 ≤ v → (u : ℕ) → get_or ps u 0 ≤ get_or (set ps t v) u 0
raised_up ps t v there more u =
    elim (cases_eq u t) [
      | inl same ↦ omega (arith, ap (λ x. get_or ps x 0) same, ap (λ x. get_or (set ps t v) x 0) same, get_or-set_same ps t v 0 there)
      | inr apart ↦ omega (arith, get_or-set_other ps t u v 0 apart)
    ]

-- along new entries, the old potential at the end and the losses are at most that at the start and the gains; and they
-- are less where one of the entries wasn't there before
steps : (g : Parts) (w : Weighing) (p : Potentials) (t a v : ℕ) → IsGraph g → IsGrown g w p → t < stations g → IsBest g w p.potentials t a v → (s u : ℕ) (arcs : List ℕ) → IsWalk g s arcs u → AreEntries g (with_potential p t a v).entries arcs → (get_or p.potentials u 0 + losses g w arcs ≤ get_or p.potentials s 0 + gains g w arcs) × (AreEntries g p.entries arcs ⊎ (get_or p.potentials u 0 + losses g w arcs < get_or p.potentials s 0 + gains g w arcs))
steps g w p t a v graph h there best s u [] walk entries =
    (omega (arith, ap (λ x. get_or p.potentials x 0) walk), inl (λ k d low. absurd (omega (arith, low))))
steps g w p t a v graph h there best s u (b ∷ arcs) walk entries =
    let P = p.potentials in
    let E = p.entries in
    let E' = set E t a in
    let to = (arc g b).to in
    let from = (arc g b).from in
    let is : get_or E' to 0 ≡ b = All-head (λ c. get_or E' (arc g c).to 0 ≡ c) b arcs entries in
    let rest = steps g w p t a v graph h there best to u arcs walk.2 (All-tail (λ c. get_or E' (arc g c).to 0 ≡ c) b arcs entries) in
    let sum_gains = gains-cons g w b arcs in
    let sum_losses = losses-cons g w b arcs in
    let start : get_or P from 0 ≡ get_or P s 0 = ap (λ x. get_or P x 0) walk.1 in
    elim (cases_eq to t) [
      | inl same ↦
          let own : get_or E' to 0 ≡ a = ap (λ x. get_or E' x 0) same ∙ get_or-set_same E t a 0 (omega (arith, h.entry_for_each)) in
          let new : a ≡ b = sym own ∙ is in
          let less : get_or P to 0 + loss g w b < get_or P from 0 + gain g w b = omega (arith, best.gives, best.more, ap (λ x. get_or P x 0) same, ap (loss g w) new, ap (gain g w) new, ap (λ c. get_or P (arc g c).from 0) new) in
          (omega (arith, less, rest.0, sum_gains, sum_losses, start), inr (omega (arith, less, rest.0, sum_gains, sum_losses, start)))
      | inr apart ↦
          let old : get_or E to 0 ≡ b = sym (get_or-set_other E t to a 0 apart) ∙ is in
          let come = h.comes to (graph.ends_exist b walk.0) (omega (arith, old, walk.0)) in
          let most : get_or P to 0 + loss g w b ≤ get_or P from 0 + gain g w b = omega (arith, come, ap (loss g w) old, ap (gain g w) old, ap (λ c. get_or P (arc g c).from 0) old) in (
            omega (arith, most, rest.0, sum_gains, sum_losses, start),
            elim rest.1 [
              | inl all ↦ inl (All-cons (λ c. get_or E (arc g c).to 0 ≡ c) b arcs old all)
              | inr less ↦ inr (omega (arith, most, less, sum_gains, sum_losses, start))
            ],
          )
    ]

pub grown_more : (g : Parts) (w : Weighing) (p : Potentials) (t a v : ℕ) → IsGraph g → IsGrown g w p → t < stations g → IsBest g w p.potentials t a v → IsGrown g w (with_potential p t a v)
grown_more g w p t a v graph h there best =
    let P = p.potentials in
    let E = p.entries in
    let P' = set P t v in
    let E' = set E t a in
    let in_P : t < length P = omega (arith, h.potential_for_each) in
    let in_E : t < length E = omega (arith, h.entry_for_each) in
    let own_p : get_or P' t 0 ≡ v = get_or-set_same P t v 0 in_P in
    let own_e : get_or E' t 0 ≡ a = get_or-set_same E t a 0 in_E in
    let other_p : (u : ℕ) → u ≢ t → get_or P' u 0 ≡ get_or P u 0 = λ u apart. get_or-set_other P t u v 0 apart in
    let other_e : (u : ℕ) → u ≢ t → get_or E' u 0 ≡ get_or E u 0 = λ u apart. get_or-set_other E t u a 0 apart in
    let up : (u : ℕ) → get_or P u 0 ≤ get_or P' u 0 = raised_up P t v in_P (omega (arith, best.more)) in
    record {
      potential_for_each = length-set P t v ∙ h.potential_for_each;
      entry_for_each = length-set E t a ∙ h.entry_for_each;
      enters = λ u exists low.
          elim (cases_eq u t) [
            | inl same ↦ ap (λ b. (arc g b).to) (ap (λ x. get_or E' x 0) same ∙ own_e) ∙ (best.enters.1 ∙ sym same)
            | inr apart ↦ ap (λ b. (arc g b).to) (other_e u apart) ∙ h.enters u exists (omega (arith, low, other_e u apart))
          ];
      comes = λ u exists low.
          elim (cases_eq u t) [
            | inl same ↦
                let e : get_or E' u 0 ≡ a = ap (λ x. get_or E' x 0) same ∙ own_e in
                omega (arith, ap (loss g w) e, ap (gain g w) e, ap (λ b. get_or P' (arc g b).from 0) e, ap (λ x. get_or P' x 0) same, own_p, best.gives, up (arc g a).from)
            | inr apart ↦
                let e = other_e u apart in
                let come = h.comes u exists (omega (arith, low, e)) in
                omega (arith, ap (loss g w) e, ap (gain g w) e, ap (λ b. get_or P' (arc g b).from 0) e, other_p u apart, come, up (arc g (get_or E u 0)).from)
          ];
      grounded = λ u exists high.
          elim (cases_eq u t) [
            | inl same ↦ absurd (omega (arith, high, ap (λ x. get_or E' x 0) same, own_e, best.enters.0))
            | inr apart ↦ other_p u apart ∙ h.grounded u exists (omega (arith, high, other_e u apart))
          ];
      reached = λ u exists.
          elim (cases_eq u t) [
            | inl same ↦
                let before = h.reached (arc g a).from (graph.starts_exist a best.enters.0) in
                record {
                  start = before.start;
                  walk = before.walk ++ a ∷ [];
                  ends = subst (IsWalk g before.start (before.walk ++ a ∷ [])) (best.enters.1 ∙ sym same) (walk_push g before.start (arc g a).from a before.walk before.ends best.enters.0 refl);
                  sum = omega (arith, ap (λ x. get_or P' x 0) same, own_p, best.gives, before.sum, sum_by_push (gain g w) before.walk a, sum_by_push (loss g w) before.walk a);
                }
            | inr apart ↦
                let before = h.reached u exists in
                record { start = before.start; walk = before.walk; ends = before.ends; sum = omega (arith, other_p u apart, before.sum) }
          ];
      heavier = λ s arcs some walk entries.
          (let sums = steps g w p t a v graph h there best s s arcs walk entries in
          elim sums.1 [ inl old ↦ h.heavier s arcs some walk old | inr less ↦ omega (arith, less) ]);
    }
