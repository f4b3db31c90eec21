-- No station on a circuit without a token fires: it has an input place on the circuit, which stays empty.
use Rattle.std.proofs.Common.{◌≡◌, ◌≢◌, ℕ, zero, suc, ◌<◌, ◌⊎◌, eqb, List, [], ◌∷◌, length, get_or, refl, sym, ap, ◌∙◌, subst, inl, inr, arith}
use Rattle.std.specs.List.{Contains}
use Rattle.std.proofs.lemmas.Bool.{ne_eqb, cond-false}
use Rattle.std.proofs.lemmas.List.Sums.{get_or-le-sum_by}
use Rattle.std.proofs.lemmas.List.{get_or_default, length-map}
use Rattle.line_base.specs.declared.event.Parts.{Parts}
use Rattle.event_graph.specs.Network.{arc, arc_count}
use Rattle.event_graph.specs.State.{State, place}
use Rattle.event_graph.specs.Firing.{CanFire, after}
use Rattle.event_graph.specs.Reached.{Reached, begins, fires}
use Rattle.event_graph.specs.Circuit.{IsWalk, starting_stations}
use Rattle.live_check.specs.DeadCircuit.{IsDeadCircuit}
use Rattle.line_core.specs.Laws.{IsIdle}
use Rattle.line_core.proofs.ArcTokens.{log-after}
use Rattle.event_graph.proofs.Places.{circuit_keeps_number}
use Rattle.line_core.proofs.Consistency.{exists, log-start, reached_is_consistent}

-- some arc of the list ends at the station
record HasInput (g : Parts) (arcs : List ℕ) (t : ℕ) : Type 0 where
  input : ℕ
  listed : Contains arcs input
  known : input < arc_count g
  ends : (arc g input).to ≡ t

later : (g : Parts) (a : ℕ) (arcs : List ℕ) (t : ℕ) → HasInput g arcs t → HasInput g (a ∷ arcs) t
later g a arcs t h = record {
  input = h.input;
  listed = (suc h.listed.0, omega (arith, h.listed.1), h.listed.2);
  known = h.known;
  ends = h.ends;
}

-- a walk of an arc at least enters the station at which it ends
enters_end : (g : Parts) (t u a : ℕ) (arcs : List ℕ) → IsWalk g t (a ∷ arcs) u → HasInput g (a ∷ arcs) u
enters_end g t u a [] walk = record { input = a; listed = (0, omega arith, refl); known = walk.0; ends = walk.2 }
enters_end g t u a (b ∷ arcs) walk = later g a (b ∷ arcs) u (enters_end g (arc g a).to u b arcs walk.2)

-- each station that a walk leaves, but for the first, it has entered before
enters_next : (g : Parts) (t u v k d : ℕ) (arcs : List ℕ) → IsWalk g t arcs u → k < length arcs → get_or (starting_stations g arcs) k d ≡ v → (t ≡ v) ⊎ HasInput g arcs v
enters_next g t u v k d [] walk low is = absurd (omega (arith, low))
enters_next g t u v zero d (a ∷ arcs) walk low is = inl (sym walk.1 ∙ is)
enters_next g t u v (suc k) d (a ∷ arcs) walk low is =
    elim (enters_next g (arc g a).to u v k d arcs walk.2 (omega arith) is) [
      | inl first ↦ inr (record { input = a; listed = (0, omega arith, refl); known = walk.0; ends = first })
      | inr before ↦ inr (later g a arcs v before)
    ]

-- so it has an input on a circuit
on_circuit : (g : Parts) (arcs : List ℕ) (t : ℕ) → IsDeadCircuit g arcs → Contains (starting_stations g arcs) t → HasInput g arcs t
on_circuit g arcs t dead found =
    let circuit = dead.circuit in
    let low : found.0 < length arcs = omega (arith, found.1, length-map arcs (λ a. (arc g a).from)) in
    elim (enters_next g circuit.base circuit.base t found.0 t arcs circuit.closed low found.2) [
      | inl base ↦ subst (HasInput g arcs) base (of_base arcs circuit.base circuit.some circuit.closed)
      | inr before ↦ before
    ]
  where
    of_base : (path : List ℕ) (base : ℕ) → 0 < length path → IsWalk g base path base → HasInput g path base
    of_base [] base some walk = absurd (omega (arith, some))
    of_base (a ∷ path) base some walk = enters_end g base base a path walk

-- which holds no token
stopped : (g : Parts) (arcs : List ℕ) (s : State) (t : ℕ) → IsDeadCircuit g arcs → Reached g s → Contains (starting_stations g arcs) t → CanFire g s t → ⊥
stopped g arcs s t dead reached found can =
    let into = on_circuit g arcs t dead found in
    let sum = circuit_keeps_number g s reached arcs dead.circuit in
    let held = λ (a : ℕ). length (place s a) in
    let here : get_or arcs into.listed.0 0 ≡ into.input = get_or_default arcs into.listed.0 0 into.input into.listed.1 ∙ into.listed.2 in
    omega (arith, get_or-le-sum_by held arcs into.listed.0 0 into.listed.1, ap held here, sum, dead.empty, can.tokens into.input into.known into.ends)

pub stays_idle : (g : Parts) (arcs : List ℕ) → IsDeadCircuit g arcs → (s : State) → Reached g s → (t : ℕ) → Contains (starting_stations g arcs) t → IsIdle g s t
stays_idle g arcs dead s begins t found = record {
  no_dates = log-start g t;
  stopped = stopped g arcs s t dead begins found;
}
stays_idle g arcs dead s (fires old u reached can) t found = record {
  no_dates =
      (let before = stays_idle g arcs dead old reached t found in
      let c = reached_is_consistent g old reached in
      let other : t ≢ u = λ same. before.stopped (subst (CanFire g old) (sym same) can) in
      log-after g old u (exists g old u c can) t ∙ (cond-false (eqb t u) _ _ (ne_eqb t u other) ∙ before.no_dates));
  stopped = stopped g arcs (after g old u) t dead (fires old u reached can) found;
}
