-- The arcs by which cards go back, and the card circuits that they close.
use Rattle.std.proofs.Common.{◌≡◌, ℕ, ◌+◌, ◌-◌, ◌*◌, ◌<◌, true, List, [], ◌∷◌, ◌++◌, length, get_or, map, refl, sym, ap, ◌∙◌, subst, arith}
use Rattle.std.specs.List.{range_with_len, filter, flat_map, count_by, All}
use Rattle.std.proofs.lemmas.List.{length-map, get_or-map}
use Rattle.std.proofs.lemmas.List.FromFn.{length-map-range_with_len, get_or-map-range_with_len}
use Rattle.std.proofs.lemmas.List.Elements.{All-nil, All-append}
use Rattle.line_base.specs.declared.event.Parts.{Parts}
use Rattle.plant_model.specs.declared.plant.Policy.{Policy}
use Rattle.plant_model.specs.declared.plant.Policy.TheVariants.{Kanban, Conwip, BaseStock, Extended}
use Rattle.plant_model.specs.declared.plant.Plant.{Plant}
use Rattle.plant_model.specs.Line.{stage_at, no_loop, loop_at, stage_numbers, stock_under, starting, line_cards, is_first, first_stages, path_stock, stock_between}
use Rattle.plant_model.specs.Graph.{card_row, demand_row, line_card_row, policy_rows, kanban_rows, extended_rows, conwip_rows, graph}
use Rattle.plant_model.specs.Sound.{IsSound}
use Rattle.plant_model.proofs.SoundPlants.{IsSoundLoop-sound, path_stock-has_cards, starting-has_cards}
use Rattle.event_graph.specs.Circuit.{IsCircuit, tokens_on}
use Rattle.circuit_sums.specs.declared.circuit.CardCircuit.{CardCircuit}
use Rattle.plant_model.specs.ArcNumbers.{policy_arc, kanban_arc, extended_arc, conwip_arc, first_loop_arc}
use Rattle.circuit_sums.specs.Circuits.{stage_circuit, line_circuit, loop_circuit, policy_circuits, loop_circuits, circuits, IsCardCircuit}
use Rattle.line_base.proofs.RangeLists.{All-map-range, All-map-filter, get_or-flat_map-range, length-flat_map-range, passing-at}
use Rattle.circuit_sums.proofs.RowNumbers.{no_row, IsRowAt, HasArc, HasArc-row, policy_row-at, loop_row-at}
use Rattle.circuit_sums.proofs.Lines.{IsLine, IsLine-close}
use Rattle.circuit_sums.proofs.StageLines.{stage_line, path_line, whole_path_line}

-- the plant with this policy in its place
abbrev with_policy : Policy → Plant → Plant
with_policy policy p = record p { policy = policy }

policy_rows-kanban : (p : Plant) → p.policy ≡ Kanban → policy_rows p ≡ kanban_rows p
policy_rows-kanban p is =
    subst (λ (q : Policy). policy_rows (with_policy q p) ≡ kanban_rows (with_policy q p)) (sym is) refl

policy_rows-extended : (p : Plant) → p.policy ≡ Extended → policy_rows p ≡ extended_rows p
policy_rows-extended p is =
    subst (λ (q : Policy). policy_rows (with_policy q p) ≡ extended_rows (with_policy q p)) (sym is) refl

policy_rows-conwip : (p : Plant) (cards : ℕ) → p.policy ≡ Conwip cards → policy_rows p ≡ conwip_rows p
policy_rows-conwip p cards is =
    subst (λ (q : Policy). policy_rows (with_policy q p) ≡ conwip_rows (with_policy q p)) (sym is) refl

-- the row of the cards of a stage, under kanban and under extended kanban
kanban-at : (p : Plant) (i : ℕ) → p.policy ≡ Kanban → i < length p.stages → IsRowAt p (kanban_arc p i) (card_row p 0 i)
kanban-at p i is below =
    let n = length p.stages in
    let rows = policy_rows-kanban p is in
    let read = get_or-map-range_with_len (card_row p 0) 0 n i i no_row below (omega arith) in
    policy_row-at p i (card_row p 0 i) (rw rows (omega (arith, length-map-range_with_len (card_row p 0) 0 n))) (rw rows read)

extended-at : (p : Plant) (i : ℕ) → p.policy ≡ Extended → i < length p.stages → IsRowAt p (extended_arc p i) (card_row p ((stage_at p i).cards - starting p i) i)
extended-at p i is below =
    let n = length p.stages in
    let rows = policy_rows-extended p is in
    let both = λ (j : ℕ). demand_row p j ∷ card_row p ((stage_at p j).cards - starting p j) j ∷ [] in
    let before = length-flat_map-range both 2 i (λ j. refl) in
    let all = length-flat_map-range both 2 n (λ j. refl) in
    let second : 1 < length (both i) = omega arith in
    let read = get_or-flat_map-range both n i 1 no_row below second in
    let place : 2 * i + 1 ≡ length (flat_map both (range_with_len 0 i)) + 1 = omega arith in
    let found = ap (λ k. get_or (extended_rows p) k no_row) place ∙ read in
    let row = policy_row-at p (2 * i + 1) (card_row p ((stage_at p i).cards - starting p i) i) (rw rows (omega arith)) (rw rows found) in
    let at : policy_arc p + (2 * i + 1) ≡ extended_arc p i = omega arith in
    subst (λ a. IsRowAt p a (card_row p ((stage_at p i).cards - starting p i) i)) at row

-- the row of the line's cards to a first stage
conwip-at : (p : Plant) (cards i : ℕ) → p.policy ≡ Conwip cards → i < length p.stages → is_first p i ≡ true → IsRowAt p (conwip_arc p i) (line_card_row p i)
conwip-at p cards i is below first =
    let firsts = filter (is_first p) (stage_numbers p) in
    let rows = policy_rows-conwip p cards is in
    let k = count_by (is_first p) (range_with_len 0 i) in
    let found = passing-at (is_first p) (length p.stages) i 0 below first in
    let read = get_or-map (line_card_row p) firsts k 0 no_row found.0 ∙ ap (line_card_row p) found.1 in
    policy_row-at p k (line_card_row p i) (rw rows (omega (arith, found.0, length-map firsts (line_card_row p)))) (rw rows read)

-- this many cards are on the arc back that the starting stock leaves, which has a card each
closed : (p : Plant) (t : ℕ) (arcs : List ℕ) (u c stock free number : ℕ) → IsLine (graph p) t arcs u stock → HasArc p c u t free → stock + free ≡ number → IsCircuit (graph p) (arcs ++ c ∷ []) × (tokens_on (graph p) (arcs ++ c ∷ []) ≡ number)
closed p t arcs u c stock free number line has sum = let closed = IsLine-close p t arcs u c stock free line has in (closed.0, closed.1 ∙ sum)

-- under kanban the starting stock of a stage is its cards
starting-kanban : (p : Plant) (i : ℕ) → p.policy ≡ Kanban → starting p i ≡ (stage_at p i).cards
starting-kanban p i is = ap (λ (policy : Policy). stock_under policy (stage_at p i)) is

-- each circuit of the policy, and of the loops, is closed
kanban-closed : (p : Plant) (i : ℕ) → IsSound p → p.policy ≡ Kanban → i < length p.stages → IsCardCircuit (graph p) (stage_circuit p (kanban_arc p) i)
kanban-closed p i sound is below =
    let all = starting-kanban p i is in
    let circuit = closed p _ _ _ _ (starting p i) 0 (stage_at p i).cards (stage_line p i sound below) (HasArc-row p _ _ (kanban-at p i is below)) (omega arith) in
    record { closed = circuit.0; number = circuit.1 }

extended-closed : (p : Plant) (i : ℕ) → IsSound p → p.policy ≡ Extended → i < length p.stages → IsCardCircuit (graph p) (stage_circuit p (extended_arc p) i)
extended-closed p i sound is below =
    let enough = starting-has_cards p i sound is below in
    let circuit = closed p _ _ _ _ (starting p i) _ (stage_at p i).cards (stage_line p i sound below) (HasArc-row p _ _ (extended-at p i is below)) (omega arith) in
    record { closed = circuit.0; number = circuit.1 }

conwip-closed : (p : Plant) (cards i : ℕ) → IsSound p → p.policy ≡ Conwip cards → i < length p.stages → is_first p i ≡ true → IsCardCircuit (graph p) (line_circuit p cards i)
conwip-closed p cards i sound is below first =
    let enough = path_stock-has_cards p i cards sound is below first in
    let all : line_cards p.policy ≡ cards = ap line_cards is in
    let circuit = closed p _ _ _ _ (path_stock p i) _ cards (whole_path_line p i sound below) (HasArc-row p _ _ (conwip-at p cards i is below first)) (omega arith) in
    record { closed = circuit.0; number = circuit.1 }

loop-closed : (p : Plant) (k : ℕ) → IsSound p → k < length p.loops → IsCardCircuit (graph p) (loop_circuit p (first_loop_arc p) k)
loop-closed p k sound below =
    let l = loop_at p k in
    let good = IsSoundLoop-sound p k no_loop sound below in
    let enough = good.stock_has_cards in
    let line = path_line p l.first l.last sound good.first_exists good.goes_downstream in
    let circuit = closed p _ _ _ _ (stock_between p l.first l.last) _ l.cards line (HasArc-row p _ _ (loop_row-at p k below)) (omega arith) in
    record { closed = circuit.0; number = circuit.1 }

-- the circuits of the policy, policy by policy
pub policy_circuits-kanban : (p : Plant) → p.policy ≡ Kanban → policy_circuits p ≡ map (stage_circuit p (kanban_arc p)) (stage_numbers p)
policy_circuits-kanban p is =
    subst (λ (q : Policy). policy_circuits (with_policy q p) ≡ map (stage_circuit p (kanban_arc p)) (stage_numbers p)) (sym is) refl

pub policy_circuits-extended : (p : Plant) → p.policy ≡ Extended → policy_circuits p ≡ map (stage_circuit p (extended_arc p)) (stage_numbers p)
policy_circuits-extended p is =
    subst (λ (q : Policy). policy_circuits (with_policy q p) ≡ map (stage_circuit p (extended_arc p)) (stage_numbers p)) (sym is) refl

pub policy_circuits-base_stock : (p : Plant) → p.policy ≡ BaseStock → policy_circuits p ≡ []
policy_circuits-base_stock p is = subst (λ (q : Policy). policy_circuits (with_policy q p) ≡ []) (sym is) refl

pub policy_circuits-conwip : (p : Plant) (cards : ℕ) → p.policy ≡ Conwip cards → policy_circuits p ≡ map (line_circuit p cards) (first_stages p)
policy_circuits-conwip p cards is =
    subst (λ (q : Policy). policy_circuits (with_policy q p) ≡ map (line_circuit (with_policy q p) cards) (first_stages (with_policy q p))) (sym is) refl

policy-closed : (p : Plant) → IsSound p → All (IsCardCircuit (graph p)) (policy_circuits p)
policy-closed p sound = by_policy p.policy refl
  where
    by_policy : (policy : Policy) → p.policy ≡ policy → All (IsCardCircuit (graph p)) (policy_circuits p)
    by_policy Kanban is =
        rw (policy_circuits-kanban p is) (All-map-range (IsCardCircuit (graph p)) (stage_circuit p (kanban_arc p)) (length p.stages) (λ i below. kanban-closed p i sound is below))
    by_policy (Conwip cards) is =
        rw (policy_circuits-conwip p cards is) (All-map-filter (IsCardCircuit (graph p)) (line_circuit p cards) (is_first p) (length p.stages) (λ i below first. conwip-closed p cards i sound is below first))
    by_policy BaseStock is = rw (policy_circuits-base_stock p is) (All-nil (IsCardCircuit (graph p)))
    by_policy Extended is =
        rw (policy_circuits-extended p is) (All-map-range (IsCardCircuit (graph p)) (stage_circuit p (extended_arc p)) (length p.stages) (λ i below. extended-closed p i sound is below))

-- each card circuit is a circuit of the plant's graph whose tokens are its number
pub circuits-closed : (p : Plant) → IsSound p → All (IsCardCircuit (graph p)) (circuits p)
unfolding circuits
circuits-closed p sound =
    let loops = All-map-range (IsCardCircuit (graph p)) (loop_circuit p (first_loop_arc p)) (length p.loops) (λ k below. loop-closed p k sound below) in
    All-append (IsCardCircuit (graph p)) (policy_circuits p) (loop_circuits p (first_loop_arc p)) (policy-closed p sound) loops

-- of a list of them, and of a graph that is the plant's
pub all-closed : (p : Plant) (g : Parts) (list : List CardCircuit) → IsSound p → g ≡ graph p → list ≡ circuits p → All (IsCardCircuit g) list
all-closed p g list sound is are = rw (is, are) (circuits-closed p sound)
