-- How it is tested that some arcs are a circuit.
use Rattle.std.proofs.Common.{◌≡◌, ◌≢◌, ℕ, ◌+◌, ◌<◌, List, [], ◌∷◌, ◌++◌, length, get_or, take, map, sym, ap, ◌∙◌, subst, arith}
use Rattle.std.specs.List.{AllPairs, Contains}
use Rattle.std.proofs.lemmas.List.{take_more, map-append, length-map, length-take, get_or-map, get_or-take, get_or_default}
use Rattle.std.proofs.lemmas.List.Quantifiers.{all_pairs_push}
use Rattle.line_base.specs.declared.event.Parts.{Parts}
use Rattle.event_graph.specs.Network.{arc, arc_count}
use Rattle.event_graph.specs.Circuit.{IsWalk, IsCircuit, starting_stations}
use Rattle.event_graph.proofs.Walks.{walk_push, walk_take}

-- the arcs of a walk lead to one station
pub walk_ends : (g : Parts) (s t u : ℕ) (arcs : List ℕ) → IsWalk g s arcs t → IsWalk g s arcs u → t ≡ u
walk_ends g s t u [] first second = sym first ∙ second
walk_ends g s t u (a ∷ arcs) first second = walk_ends g (arc g a).to t u arcs first.2 second.2

-- one arc more
pub walk_step : (g : Parts) (s at i : ℕ) (arcs : List ℕ) → i < length arcs → IsWalk g s (take i arcs) at → get_or arcs i 0 < arc_count g → (arc g (get_or arcs i 0)).from ≡ at → IsWalk g s (take (i + 1) arcs) (arc g (get_or arcs i 0)).to
walk_step g s at i arcs low walk exists from =
    rw (take_more arcs i 0 low) (walk_push g s at (get_or arcs i 0) (take i arcs) walk exists from)

-- an arc from elsewhere
pub leads_nowhere : (g : Parts) (s at i : ℕ) (arcs : List ℕ) → i < length arcs → IsWalk g s (take i arcs) at → (arc g (get_or arcs i 0)).from ≢ at → (u : ℕ) → IsWalk g s arcs u → ⊥
leads_nowhere g s at i arcs low walk apart u whole = apart (walk_ends g s (arc g (get_or arcs i 0)).from at (take i arcs) (walk_take g s u i arcs whole low) walk)

-- the station at which arc i of the list starts
pub starts_at : (g : Parts) (arcs : List ℕ) (i d : ℕ) → i < length arcs → get_or (starting_stations g arcs) i d ≡ (arc g (get_or arcs i 0)).from
starts_at g arcs i d low = get_or-map (λ a. (arc g a).from) arcs i 0 d low

pub length-starts : (g : Parts) (arcs : List ℕ) → length (starting_stations g arcs) ≡ length arcs
length-starts g arcs = length-map arcs (λ a. (arc g a).from)

pub not_left : (g : Parts) (arcs : List ℕ) (t : ℕ) → ((k : ℕ) → k < length arcs → (arc g (get_or arcs k 0)).from ≢ t) → Contains (starting_stations g arcs) t → ⊥
not_left g arcs t none found =
    let low : found.0 < length arcs = omega (arith, found.1, length-starts g arcs) in
    none found.0 low (sym (starts_at g arcs found.0 t low) ∙ found.2)

abbrev AreDistinct : Parts → List ℕ → Type 0
AreDistinct g arcs = AllPairs (λ t u. t ≢ u) (starting_stations g arcs)

-- a station that was left before
pub left_twice : (g : Parts) (arcs : List ℕ) (i : ℕ) → i < length arcs → Contains (starting_stations g (take i arcs)) (arc g (get_or arcs i 0)).from → AreDistinct g arcs → ⊥
left_twice g arcs i low found distinct =
    let k = found.0 in
    let short : k < length (take i arcs) = omega (arith, found.1, length-starts g (take i arcs)) in
    let before : k < i = omega (arith, short, length-take i arcs) in
    let here = starts_at g (take i arcs) k (arc g (get_or arcs i 0)).from short in
    let same = get_or-take i arcs k 0 before in
    distinct k i 0 before (omega (arith, length-starts g arcs))
    (starts_at g arcs k 0 (omega arith) ∙ (ap (λ a. (arc g a).from) (sym same) ∙ (sym here ∙ (found.2 ∙ sym (starts_at g arcs i 0 low)))))

pub distinct_more : (g : Parts) (arcs : List ℕ) (i : ℕ) → i < length arcs → AreDistinct g (take i arcs) → (Contains (starting_stations g (take i arcs)) (arc g (get_or arcs i 0)).from → ⊥) → AreDistinct g (take (i + 1) arcs)
distinct_more g arcs i low distinct fresh =
    let from = λ (a : ℕ). (arc g a).from in
    let here = from (get_or arcs i 0) in
    let R : ℕ → ℕ → Type 0 = λ t u. t ≢ u in
    let pushed : AllPairs R (map from (take i arcs) ++ here ∷ []) =
    all_pairs_push R (map from (take i arcs)) here distinct (λ k d below same. fresh (k, below, get_or_default (map from (take i arcs)) k here d below ∙ same)) in
    let e : map from (take (i + 1) arcs) ≡ map from (take i arcs) ++ here ∷ [] = ap (map from) (take_more arcs i 0 low) ∙ map-append from (take i arcs) (get_or arcs i 0 ∷ []) in
    subst (AllPairs R) (sym e) pushed

-- the first arc of a circuit starts at its base
pub starts_at_base : (g : Parts) (base : ℕ) (arcs : List ℕ) → 0 < length arcs → IsWalk g base arcs base → (arc g (get_or arcs 0 0)).from ≡ base
starts_at_base g base [] some walk = absurd (omega (arith, some))
starts_at_base g base (a ∷ arcs) some walk = walk.1

pub circuit_walk : (g : Parts) (arcs : List ℕ) → IsCircuit g arcs → IsWalk g (arc g (get_or arcs 0 0)).from arcs (arc g (get_or arcs 0 0)).from
circuit_walk g arcs circuit =
    let first = starts_at_base g circuit.base arcs circuit.some circuit.closed in
    subst (λ t. IsWalk g t arcs t) (sym first) circuit.closed
