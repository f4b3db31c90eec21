-- Lemmas on the places of a state after a firing, and along walks.
use Rattle.std.proofs.Common.{◌≡◌, ℕ, ◌+◌, ◌<◌, Bool, true, false, cond, eqb, List, [], ◌∷◌, ◌++◌, drop, replicate, length, zero-add, refl, sym, ap, ◌∙◌, arith, length-append, length-drop}
use Rattle.std.proofs.lemmas.Bool.{eqb-true}
use Rattle.std.proofs.lemmas.List.{get_or-map, length-replicate}
use Rattle.std.proofs.lemmas.List.FromFn.{get_or-map-range_with_len}
use Rattle.std.proofs.lemmas.List.Sums.{sum_by-cons}
use Rattle.line_base.specs.declared.event.Arc.{Arc}
use Rattle.line_base.specs.declared.event.Parts.{Parts}
use Rattle.event_graph.specs.Network.{arc_count, arc}
use Rattle.event_graph.specs.State.{State, start, place, tokens_in}
use Rattle.event_graph.specs.Firing.{CanFire, new_date, place_after, after}
use Rattle.event_graph.specs.Circuit.{IsWalk, IsCircuit, tokens_on}
use Rattle.event_graph.specs.Reached.{Reached, begins, fires}

-- at the start each place has its arc's tokens
pub place-start : (g : Parts) (a : ℕ) → a < arc_count g → place (start g) a ≡ replicate (arc g a).tokens 0
unfolding start
place-start g a there = get_or-map (λ (x : Arc). replicate x.tokens 0) g.arcs a _ [] there

-- after a firing each place is as the firing leaves it
pub place-after : (g : Parts) (s : State) (t a : ℕ) → a < arc_count g → place (after g s t) a ≡ place_after g s t (new_date g s t) a
unfolding after
place-after g s t a there =
    get_or-map-range_with_len (place_after g s t (new_date g s t)) 0 (arc_count g) a a [] there (zero-add a)

-- a place loses a token where its arc enters the station, and gains one where it leaves it
length_moved : (gains loses : Bool) (xs : List ℕ) (d : ℕ) → (loses ≡ true → 0 < length xs) → length (cond gains (cond loses (drop 1 xs) xs ++ d ∷ []) (cond loses (drop 1 xs) xs)) + cond loses 1 0 ≡ length xs + cond gains 1 0
length_moved true true xs d some = omega (arith, some refl, length-append (drop 1 xs) (d ∷ []), length-drop 1 xs)
length_moved true false xs d some = omega (arith, length-append xs (d ∷ []))
length_moved false true xs d some = omega (arith, some refl, length-drop 1 xs)
length_moved false false xs d some = refl

pub length-place-after : (g : Parts) (s : State) (t a : ℕ) → CanFire g s t → a < arc_count g → length (place (after g s t) a) + cond (eqb (arc g a).to t) 1 0 ≡ length (place s a) + cond (eqb (arc g a).from t) 1 0
length-place-after g s t a can there =
    ap (λ xs. length xs + cond (eqb (arc g a).to t) 1 0) (place-after g s t a there)
    ∙ length_moved (eqb (arc g a).from t) (eqb (arc g a).to t) (place s a) _ (λ ends. can.tokens a there (eqb-true _ t ends))

-- along a walk a firing moves tokens from the start to the end alone
tokens_in-after : (g : Parts) (s : State) (t : ℕ) (arcs : List ℕ) (from to : ℕ) → CanFire g s t → IsWalk g from arcs to → tokens_in (after g s t) arcs + cond (eqb to t) 1 0 ≡ tokens_in s arcs + cond (eqb from t) 1 0
tokens_in-after g s t [] from to can same = ap {B = ℕ} (λ u. 0 + cond (eqb u t) 1 0) (sym same)
tokens_in-after g s t (a ∷ arcs) from to can (there, starts, rest) =
    let here = length-place-after g s t a can there in
    let later = tokens_in-after g s t arcs (arc g a).to to can rest in
    let at_start = ap {B = ℕ} (λ (u : ℕ). cond (eqb u t) 1 0) starts in
    omega (arith, here, later, at_start, sum_by-cons (λ b. length (place (after g s t) b)) a arcs, sum_by-cons (λ b. length (place s b)) a arcs)

pub circuit-after : (g : Parts) (s : State) (t : ℕ) → CanFire g s t → (arcs : List ℕ) → IsCircuit g arcs → tokens_in (after g s t) arcs ≡ tokens_in s arcs
circuit-after g s t can arcs circuit =
    omega (arith, tokens_in-after g s t arcs circuit.base circuit.base can circuit.closed)

pub walk-start : (g : Parts) (arcs : List ℕ) (from to : ℕ) → IsWalk g from arcs to → tokens_in (start g) arcs ≡ tokens_on g arcs
walk-start g [] from to same = refl
walk-start g (a ∷ arcs) from to (there, starts, rest) =
    let here = ap length (place-start g a there) ∙ length-replicate (arc g a).tokens 0 in
    omega (arith, here, walk-start g arcs (arc g a).to to rest, sum_by-cons (λ b. length (place (start g) b)) a arcs, sum_by-cons (λ b. (arc g b).tokens) a arcs)

-- in every state that firings reach a circuit has its tokens
pub circuit_keeps_number : (g : Parts) (s : State) → Reached g s → (arcs : List ℕ) → IsCircuit g arcs → tokens_in s arcs ≡ tokens_on g arcs
circuit_keeps_number g s begins arcs circuit = walk-start g arcs circuit.base circuit.base circuit.closed
circuit_keeps_number g s (fires old t reached can) arcs circuit =
    circuit-after g old t can arcs circuit ∙ circuit_keeps_number g old reached arcs circuit
