-- The potentials at which no arc gives more make a ratio the cycle time.
use Rattle.std.proofs.Common.{◌≡◌, ℕ, ◌+◌, ◌*◌, ◌<◌, ◌≤◌, ◌⊎◌, List, [], ◌∷◌, length, get_or, map, sym, ap, ◌∙◌, subst, inl, inr, arith}
use Rattle.std.specs.Prelude.{ℤ, pos, neg_ℤ, ◌+ℤ◌, ◌-ℤ◌, ◌≤ℤ◌}
use Rattle.std.specs.List.{All}
use Rattle.std.specs.Int.{IsGcd}
use Rattle.std.proofs.Math.ListN as lists
use Rattle.std.proofs.Math.Nat.{one-dvd}
use Rattle.std.proofs.lemmas.Int.{ints}
use Rattle.std.proofs.lemmas.List.{length-map}
use Rattle.std.proofs.lemmas.List.Elements.{All-map, All-weaker}
use Rattle.line_base.specs.declared.event.Parts.{Parts}
use Rattle.event_graph.specs.Network.{IsGraph, arc, arc_count, stations, delay}
use Rattle.event_graph.specs.Limits.{IsWithinLimits}
use Rattle.event_graph.specs.Term.{work}
use Rattle.event_graph.specs.Circuit.{IsWalk, time_along, tokens_on}
use Rattle.cycle_time.specs.declared.certificate.Certificate.{Certificate}
use Rattle.cycle_time.specs.declared.ratio.Ratio.{Ratio}
use Rattle.cycle_time.specs.declared.weights.Weighing.{Weighing}
use Rattle.cycle_time.specs.declared.weights.Weighing.TheVariants.{PerArc, AtRatio}
use Rattle.cycle_time.specs.Weight.{weight_along, potential, ArePotentials, IsGreatestWeight}
use Rattle.cycle_time.specs.Certificate.{most_potential, HasRatio, IsCertificate, HasNoCircuit, NoneVaries}
use Rattle.cycle_time.specs.CycleTime.{IsCycleTime}
use Rattle.cycle_time.specs.Dates.{NoneIsNegative, HoldsBack}
use Rattle.cycle_time.specs.Ratio.{IsRatio, IsWithoutCircuit, Holds}
use Rattle.cycle_time.specs.Search.{gains, losses, AreFinal}
use Rattle.cycle_time.proofs.Dates.{bounds_dates, circuit_holds}
use Rattle.cycle_time.proofs.WalkWeights.{telescopes, no_greater}
use Rattle.cycle_time.proofs.Weighed.{gain-ratio, loss-ratio, gains-cons, losses-cons, gains-ratio, losses-ratio, gains-arcs, losses-arcs}

-- ---- no circuit

-- along a walk the potentials take up what it gains
takes_up : (g : Parts) (w : Weighing) (P : List ℕ) → AreFinal g w P → (s t : ℕ) (arcs : List ℕ) → IsWalk g s arcs t → get_or P s 0 + gains g w arcs ≤ get_or P t 0 + losses g w arcs
takes_up g w P final s t [] walk = omega (arith, ap (λ u. get_or P u 0) walk)
takes_up g w P final s t (a ∷ arcs) walk =
    omega (arith, final.settled a walk.0, takes_up g w P final (arc g a).to t arcs walk.2, gains-cons g w a arcs, losses-cons g w a arcs, ap (λ u. get_or P u 0) walk.1)

-- so no circuit is left where each arc counts
pub no_circuit : (g : Parts) (P : List ℕ) → AreFinal g PerArc P → HasNoCircuit g
no_circuit g P final arcs circuit =
    omega (arith, takes_up g PerArc P final circuit.base circuit.base arcs circuit.closed, gains-arcs g arcs, losses-arcs g arcs, circuit.some)

-- ---- the potentials as signed numbers

signed-at : (P : List ℕ) (t : ℕ) → potential (map pos P) t ≡ pos (get_or P t 0)
signed-at P t = lists.get_or-map pos P t 0

as_signed : (p q c w d k m : ℕ) → p + c * (w + d) ≤ q + k * m → (pos p +ℤ (pos (c * (w + d)) -ℤ pos (k * m))) ≤ℤ pos q
as_signed p q c w d k m h = omega (arith, ints)

signed_potentials : (g : Parts) (time cards : ℕ) (P : List ℕ) → AreFinal g (AtRatio time cards) P → ArePotentials g time cards (map pos P)
signed_potentials g time cards P final a exists =
    let step = rw (gain-ratio g time cards a, loss-ratio g time cards a) at (final.settled a exists) in
    rw (signed-at P (arc g a).from, signed-at P (arc g a).to)
    (as_signed (get_or P (arc g a).from 0) (get_or P (arc g a).to 0) cards (work g a 1) (delay g a) time (arc g a).tokens step)

without_start : (p : ℕ) (w q : ℤ) → (pos p +ℤ w) ≤ℤ q → w ≤ℤ q
without_start p w q h = omega (arith, ints)

reached-signed : (p gained lost : ℕ) → p + lost ≡ gained → (pos gained -ℤ pos lost) ≡ pos p
reached-signed p gained lost e = omega (arith, ints)

greatest_signed : (g : Parts) (time cards : ℕ) (P : List ℕ) (t : ℕ) → AreFinal g (AtRatio time cards) P → t < stations g → IsGreatestWeight g time cards t (potential (map pos P) t)
greatest_signed g time cards P t final exists =
    let h = final.reached t exists in
    let sum = rw (gains-ratio g time cards h.walk, losses-ratio g time cards h.walk) at h.sum in
    record {
      start = h.start;
      walk = h.walk;
      ends = h.ends;
      reached = reached-signed (get_or P t 0) (cards * time_along g h.walk) (time * tokens_on g h.walk) sum ∙ sym (signed-at P t);
      greatest = λ s arcs walk.
          without_start (get_or P s 0) (weight_along g time cards arcs) (potential (map pos P) t)
          (rw (signed-at P s) at (telescopes g time cards (map pos P) (signed_potentials g time cards P final) s t arcs walk));
    }

-- ---- the whole

not_below : (n : ℕ) → pos 0 ≤ℤ pos n
not_below n = omega (arith, ints)

low_signed : (n : ℕ) → neg_ℤ (pos most_potential) ≤ℤ pos n
low_signed n = omega (arith, ints)

high_signed : (n : ℕ) → n ≤ most_potential → pos n ≤ℤ pos most_potential
high_signed n h = omega (arith, ints)

nowhere_left : (g : Parts) (arcs : List ℕ) → arcs ≡ [] → HoldsBack g arcs
nowhere_left g [] e x least t n found one within = absurd (omega (arith, found.1))
nowhere_left g (a ∷ arcs) e x least t n found one within = absurd (omega (arith, ap (λ xs. length xs) e))

pub cycle_time : (g : Parts) (r : Ratio) (P : List ℕ) (c : Certificate) → IsGraph g → IsWithinLimits g → NoneVaries g → IsRatio g r → AreFinal g (AtRatio r.time r.cards) P → Holds r P c → IsCycleTime g c
cycle_time g r P c graph limits fixed h final holds =
    let ps : (t : ℕ) → potential c.potentials t ≡ pos (get_or P t 0) = λ t. ap (λ xs. potential xs t) holds.potentials_are ∙ signed-at P t in
    let has : HasRatio g c.time c.cards c.circuit ⊎ IsWithoutCircuit g c.time c.circuit = rw (holds.time, holds.cards, holds.circuit) h.circuit in
    let are : ArePotentials g c.time c.cards c.potentials = rw (holds.time, holds.cards, holds.potentials_are) (signed_potentials g r.time r.cards P final) in
    let cert : IsCertificate g c = record {
      some = omega (arith, holds.cards, h.some);
      circuit = elim has [ inl ratio ↦ inl ratio | inr without ↦ inr without.idle ];
      potentials = are;
    } in
    let low : NoneIsNegative g c = λ t exists. rw (ps t) (not_below (get_or P t 0)) in
    record {
      certificate = cert;
      lowest = rw (holds.time, holds.cards) h.lowest;
      greatest = no_greater g c.time c.cards c.potentials are;
      empty_without_circuit = λ none. elim has [
        | inl ratio ↦ absurd (omega (arith, ratio.circuit.some, ap (λ xs. length xs) none))
        | inr without ↦ without.none
      ];
      potentials = λ t exists. rw (holds.time, holds.cards, holds.potentials_are) (greatest_signed g r.time r.cards P t final exists);
      no_faster = bounds_dates g c graph limits.demands_in_order fixed cert low;
      no_slower = elim has [
        | inl ratio ↦ circuit_holds g c.circuit graph fixed ratio.circuit
        | inr without ↦ nowhere_left g c.circuit without.idle.none
      ];
      small = record {
        potential_for_each = ap (λ xs. length xs) holds.potentials_are ∙ (length-map P pos ∙ final.potential_for_each);
        potentials_low = rw holds.potentials_are (All-map (λ p. neg_ℤ (pos most_potential) ≤ℤ p) pos P (λ k d below. low_signed (get_or P k d)));
        potentials_high = rw holds.potentials_are (All-map (λ p. p ≤ℤ pos most_potential) pos P (All-weaker (λ n. n ≤ most_potential) (λ n. pos n ≤ℤ pos most_potential) high_signed P final.small));
        time = omega (arith, holds.time, h.time_small);
        cards = omega (arith, holds.cards, h.cards_small);
        few = rw holds.circuit h.few;
        exist = rw holds.circuit h.exist;
      };
    }

-- ---- no ratio at first

pub without_ratio : (g : Parts) (P : List ℕ) (r : Ratio) → AreFinal g PerArc P → r.time ≡ 0 → r.cards ≡ 1 → r.circuit.items ≡ [] → IsRatio g r
without_ratio g P r final is_time is_cards is_circuit = record {
  some = omega (arith, is_cards);
  lowest = rw is_cards (dvd-zero_at r.time is_time);
  circuit = inr (record { idle = record { none = is_circuit; no_time = is_time }; none = no_circuit g P final });
  time_small = omega (arith, is_time);
  cards_small = omega (arith, is_cards);
  few = omega (arith, ap (λ xs. length xs) is_circuit);
  exist = subst (All (λ a. a < arc_count g)) (sym is_circuit) (λ k d below. absurd (omega (arith, below)));
}
  where
    dvd-zero_at : (n : ℕ) → n ≡ 0 → IsGcd n 1 1
    dvd-zero_at n is = (one-dvd n, one-dvd 1, λ e in_n in_one. in_one)
