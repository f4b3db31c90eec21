-- What the listing of the card circuits keeps: one circuit more.
use Rattle.std.proofs.Common.{◌≡◌, ℕ, ◌+◌, ◌<◌, ◌≤◌, Bool, true, false, cond, List, [], ◌∷◌, ◌++◌, length, get_or, map, refl, sym, ap, ◌∙◌, append_assoc, arith}
use Rattle.std.specs.List.{range_with_len, filter, count_by}
use Rattle.std.proofs.lemmas.List.{append-nil, map-append, length-map}
use Rattle.std.proofs.lemmas.List.FromFn.{map-range_with_len_more, length-range_with_len}
use Rattle.std.proofs.lemmas.List.Sums.{count_by-le-length}
use Rattle.line_base.specs.declared.event.Arc.{Arc}
use Rattle.line_base.specs.declared.event.Parts.{Parts}
use Rattle.plant_model.specs.declared.plant.CardLoop.{CardLoop}
use Rattle.plant_model.specs.declared.plant.Plant.{Plant}
use Rattle.plant_model.specs.Line.{no_loop, is_first, path, up_to}
use Rattle.plant_model.specs.Graph.{rows, graph}
use Rattle.plant_model.specs.Sound.{IsSound}
use Rattle.line_base.proofs.RangeLists.{filter-range_more, count_by-range_more}
use Rattle.plant_model.proofs.LayoutFacts.{few_stages, small_arcs}
use Rattle.event_graph.specs.Network.{arc_count}
use Rattle.circuit_sums.specs.declared.circuit.CircuitKind.TheVariants as kind
use Rattle.circuit_sums.specs.declared.circuit.CardCircuit.{CardCircuit}
use Rattle.plant_model.specs.ArcNumbers.{policy_arc, first_loop_arc, conwip_arc, onward_arcs_of}
use Rattle.circuit_sums.specs.Circuits.{line_circuit, loop_circuit}
use Rattle.circuit_sums.proofs.RowNumbers.{length-rows}
use Rattle.circuit_sums.proofs.StageLines.{final_stage, up_to-final}

-- one element more that is made by its number
pub listed-more : {X : Type 0} (f : ℕ → X) (n : ℕ) (list : List X) (x : X) → list ≡ map f (range_with_len 0 n) → x ≡ f n → list ++ x ∷ [] ≡ map f (range_with_len 0 (n + 1))
listed-more f n list x is at = rw (is, at) (sym (map-range_with_len_more f 0 n n (omega arith)))

pub added-more : {X : Type 0} (f : ℕ → X) (n : ℕ) (old list : List X) (x : X) → list ≡ old ++ map f (range_with_len 0 n) → x ≡ f n → list ++ x ∷ [] ≡ old ++ map f (range_with_len 0 (n + 1))
added-more f n old list x is at =
    ap (λ xs. xs ++ x ∷ []) is
    ∙ append_assoc old (map f (range_with_len 0 n)) (x ∷ [])
    ∙ ap (λ xs. old ++ xs) (listed-more f n (map f (range_with_len 0 n)) x refl at)

-- one more that is made by its number, if the number passes a test
pub passing-more : {X : Type 0} (f : ℕ → X) (t : ℕ → Bool) (n : ℕ) (list : List X) (x : X) → list ≡ map f (filter t (range_with_len 0 n)) → t n ≡ true → x ≡ f n → list ++ x ∷ [] ≡ map f (filter t (range_with_len 0 (n + 1)))
passing-more f t n list x is passes at =
    let front = filter t (range_with_len 0 n) in
    let numbers = filter-range_more t n ∙ ap (λ b. front ++ cond b (n ∷ []) []) passes in
    rw (is, at) (sym (ap (map f) numbers ∙ map-append f front (n ∷ [])))

pub failing-more : {X : Type 0} (f : ℕ → X) (t : ℕ → Bool) (n : ℕ) (list : List X) → list ≡ map f (filter t (range_with_len 0 n)) → t n ≡ false → list ≡ map f (filter t (range_with_len 0 (n + 1)))
failing-more f t n list is fails =
    let front = filter t (range_with_len 0 n) in
    let numbers = filter-range_more t n ∙ ap (λ b. front ++ cond b (n ∷ []) []) fails ∙ append-nil front in
    is ∙ ap (map f) (sym numbers)

-- the arc of the line's cards to the next first stage
pub conwip_arc-passing : (p : Plant) (n arc : ℕ) → arc ≡ conwip_arc p n → is_first p n ≡ true → arc + 1 ≡ conwip_arc p (n + 1)
conwip_arc-passing p n arc is passes =
    let more = count_by-range_more (is_first p) n ∙ ap (λ b. count_by (is_first p) (range_with_len 0 n) + cond b 1 0) passes in
    omega arith

pub conwip_arc-failing : (p : Plant) (n arc : ℕ) → arc ≡ conwip_arc p n → is_first p n ≡ false → arc ≡ conwip_arc p (n + 1)
conwip_arc-failing p n arc is fails =
    let more = count_by-range_more (is_first p) n ∙ ap (λ b. count_by (is_first p) (range_with_len 0 n) + cond b 1 0) fails in
    omega arith

-- the arcs of the policy have small numbers
pub small_policy_arc : (p : Plant) → IsSound p → policy_arc p ≤ 1537
small_policy_arc p sound = omega (arith, small_arcs p sound)

pub small_conwip_arc : (p : Plant) (i : ℕ) → IsSound p → i < length p.stages → conwip_arc p i ≤ 1601
small_conwip_arc p i sound below =
    let few = (few_stages p sound).1 in
    omega (arith, small_policy_arc p sound, count_by-le-length (is_first p) (range_with_len 0 i), length-range_with_len 0 i)

-- the circuit that is made of a path to the final stage
pub line_circuit-made : (p : Plant) (cards i final arc : ℕ) (arcs : List ℕ) → IsSound p → i < length p.stages → final ≡ final_stage p → arc ≡ conwip_arc p i → arcs ≡ onward_arcs_of p (up_to final (path p i)) ++ arc ∷ [] → record { kind = kind.Conwip i; arcs = arcs; number = cards } ≡ line_circuit p cards i
line_circuit-made p cards i final arc arcs sound below last at are =
    let whole = ap (λ b. up_to b (path p i)) last ∙ up_to-final p i sound below in
    let same : arcs ≡ onward_arcs_of p (path p i) ++ conwip_arc p i ∷ [] = are ∙ ap (λ is. onward_arcs_of p is ++ arc ∷ []) whole ∙ ap (λ a. onward_arcs_of p (path p i) ++ a ∷ []) at in
    let made : List ℕ → CardCircuit = λ xs. record { kind = kind.Conwip i; arcs = xs; number = cards } in
    ap made same

-- how many arcs the graph has, where they were read
pub arc_count-loops : (p : Plant) → arc_count (graph p) ≡ first_loop_arc p + length p.loops
unfolding graph
arc_count-loops p = length-map (rows p) (λ r. r.arc) ∙ length-rows p

pub length-arcs : (p : Plant) (g : Parts) (arcs : List Arc) → arcs ≡ g.arcs → g ≡ graph p → length arcs ≡ first_loop_arc p + length p.loops
length-arcs p g arcs are is = ap length are ∙ ap arc_count is ∙ arc_count-loops p

-- the circuit that is made of a loop that was read
pub loop_circuit-made : (p : Plant) (k first : ℕ) (loops : List CardLoop) (arcs : List ℕ) → loops ≡ p.loops → arcs ≡ onward_arcs_of p (up_to (get_or loops k no_loop).last (path p (get_or loops k no_loop).first)) ++ (first + k) ∷ [] → record { kind = kind.CardLoop k; arcs = arcs; number = (get_or loops k no_loop).cards } ≡ loop_circuit p first k
loop_circuit-made p k first loops arcs are made =
    let circuit : List CardLoop → CardCircuit = λ ls. record {
      kind = kind.CardLoop k;
      arcs = onward_arcs_of p (up_to (get_or ls k no_loop).last (path p (get_or ls k no_loop).first)) ++ (first + k) ∷ [];
      number = (get_or ls k no_loop).cards;
    } in
    let of_arcs : List ℕ → CardCircuit = λ xs. record { kind = kind.CardLoop k; arcs = xs; number = (get_or loops k no_loop).cards } in
    ap of_arcs made ∙ ap circuit are
