-- A card circuit goes through each stage that has a bound, so no more parts stand in the stage.
use Rattle.std.proofs.Common.{◌≡◌, ℕ, zero, suc, ◌+◌, ◌<◌, ◌≤◌, ◌==◌, inl, inr, Bool, true, false, not, List, [], ◌∷◌, ◌++◌, length, get_or, map, Option, None, Some, refl, sym, ap, ◌∙◌, subst, add-one, append_assoc, arith}
use Rattle.std.specs.Prelude.{sum_by}
use Rattle.std.specs.Option.{option_map_or}
use Rattle.std.specs.List.{list_any, Contains}
use Rattle.std.proofs.lemmas.Bool.{eqb-true, or_cases}
use Rattle.std.proofs.lemmas.List.Concat.{flat_map-append}
use Rattle.std.proofs.lemmas.List.Sums.{sum_by-append}
use Rattle.std.proofs.lemmas.List.Elements.{All-contains, Contains-append_left}
use Rattle.line_base.specs.declared.event.Parts.{Parts}
use Rattle.plant_model.specs.declared.plant.Policy.{Policy}
use Rattle.plant_model.specs.declared.plant.Policy.TheVariants.{Kanban, Conwip, BaseStock, Extended}
use Rattle.plant_model.specs.Stages.{Stage}
use Rattle.plant_model.specs.declared.plant.Plant.{Plant}
use Rattle.plant_model.specs.Line.{no_stage, stage_at, stage_numbers, release, receiver, next, feeds, is_first, path}
use Rattle.plant_model.specs.Graph.{graph}
use Rattle.plant_model.specs.Sound.{IsSound}
use Rattle.plant_model.proofs.Soundness.{FeedsLater, IsSound-FeedsLater}
use Rattle.plant_model.proofs.Paths.{path-step}
use Rattle.event_graph.specs.Network.{arc}
use Rattle.event_graph.specs.State.{State, place, tokens_in}
use Rattle.event_graph.specs.Reached.{Reached}
use Rattle.event_graph.specs.Circuit.{IsWalk, tokens_on}
use Rattle.event_graph.proofs.Places.{circuit_keeps_number}
use Rattle.circuit_sums.specs.declared.circuit.CardCircuit.{CardCircuit}
use Rattle.plant_model.specs.ArcNumbers.{onward_arcs, onward_arcs_of, kanban_arc, extended_arc, conwip_arc, first_loop_arc}
use Rattle.circuit_sums.specs.Circuits.{stage_circuit, line_circuit, policy_circuits, loop_circuits, circuits, IsCardCircuit}
use Rattle.plant_model.specs.Bound.{bound}
use Rattle.circuit_sums.specs.Laws.{IsBounded, GoThrough}
use Rattle.line_base.proofs.RangeLists.{Contains-map-range, Contains-map-filter}
use Rattle.circuit_sums.proofs.Lines.{walk-append, walk-split, walk-begin}
use Rattle.circuit_sums.proofs.StageLines.{stage_line}
use Rattle.circuit_sums.proofs.CardArcs.{policy_circuits-kanban, policy_circuits-extended, policy_circuits-conwip, circuits-closed}

-- what is left of a closed walk without a part of it leads back from the end of the part to its start
back_walk : (g : Parts) (base t u : ℕ) (before : List ℕ) (a : ℕ) (part after : List ℕ) → IsWalk g base (before ++ (a ∷ part ++ after)) base → IsWalk g t (a ∷ part) u → IsWalk g u (after ++ before) t
back_walk g base t u before a part after closed through =
    let first = walk-split g base before (a ∷ part ++ after) base closed in
    let second = walk-split g first.0 (a ∷ part) after base first.2 in
    let same = walk-begin g first.0 t a part second.0 u second.1 through in
    let here = walk-append g second.0 after base before first.0 second.2 first.1 in
    subst (λ v. IsWalk g u (after ++ before) v) same.0 (subst (λ v. IsWalk g v (after ++ before) first.0) same.1 here)

-- the arcs of a part, and those before and after it
sum_by-parts : (f : ℕ → ℕ) (xs ys zs : List ℕ) → sum_by f (xs ++ (ys ++ zs)) ≡ sum_by f ys + sum_by f (zs ++ xs)
sum_by-parts f xs ys zs = omega (arith, sum_by-append f xs (ys ++ zs), sum_by-append f ys zs, sum_by-append f zs xs)

-- a card circuit through a stage bounds it
bounded : (p : Plant) (i number : ℕ) (c : CardCircuit) → IsSound p → i < length p.stages → Contains (circuits p) c → c.number ≡ number → GoThrough p i c.arcs → IsBounded p i number
bounded p i number c sound below listed cards way =
    let g = graph p in
    let circuit = All-contains (IsCardCircuit g) (circuits p) c (circuits-closed p sound) listed in
    let line = stage_line p i sound below in
    let base = circuit.closed.base in
    let closed = subst (λ arcs. IsWalk g base arcs base) way.through circuit.closed.closed in
    let tokens = sym (ap (tokens_on g) way.through) ∙ circuit.number ∙ cards in
    let stock = line.leads.stock in
    record {
      circuit = c;
      listed = listed;
      cards = cards;
      way = way;
      back = back_walk g base (release p i) (receiver p i) way.before _ _ way.after (rw add-one at closed) (rw add-one at line.leads.walk);
      free = omega (arith, sum_by-parts (λ a. (arc g a).tokens) way.before (onward_arcs p i) way.after);
    }

-- a circuit of the policy is a card circuit
of_policy : (p : Plant) (c : CardCircuit) → Contains (policy_circuits p) c → Contains (circuits p) c
unfolding circuits
of_policy p c listed = Contains-append_left (policy_circuits p) (loop_circuits p (first_loop_arc p)) c listed

-- a stage that some stage feeds, or a first one
fed_by : (p : Plant) (stages : List Stage) (j : ℕ) → list_any (feeds j) stages ≡ true → (k : ℕ) × (k < length stages) × ((get_or stages k no_stage).feeds ≡ Some j)
fed_by p [] j fed = cc
fed_by p (s ∷ stages) j fed =
    elim (or_cases (feeds j s) (list_any (feeds j) stages) fed) [
      | inl here ↦ (0, omega arith, by_feeds s.feeds refl here)
      | inr further ↦ let k = fed_by p stages j further in (suc k.0, omega (arith, k.1), k.2)
    ]
  where
    by_feeds : (o : Option ℕ) → s.feeds ≡ o → option_map_or (λ k. k == j) o false ≡ true → s.feeds ≡ Some j
    by_feeds None is h = cc
    by_feeds (Some k) is h = is ∙ ap Some (eqb-true k j h)

-- the path of each stage is the end of the path of a first stage
pub record ComesFromFirst (p : Plant) (i : ℕ) : Type 0 where
  pub first : ℕ
  pub exists : first < length p.stages
  pub unfed : is_first p first ≡ true
  pub before : List ℕ
  pub path_is : path p first ≡ before ++ path p i

comes_from_first : (p : Plant) (more i : ℕ) → IsSound p → i < length p.stages → i < more → ComesFromFirst p i
comes_from_first p zero i sound below enough = absurd (omega arith)
comes_from_first p (suc more) i sound below enough =
    by_test (λ k there less. comes_from_first p more k sound there less) (list_any (feeds i) p.stages) refl
  where
    tree : FeedsLater p
    tree = IsSound-FeedsLater sound

    by_test : ((k : ℕ) → k < length p.stages → k < more → ComesFromFirst p k) → (t : Bool) → list_any (feeds i) p.stages ≡ t → ComesFromFirst p i
    by_test again false unfed = record { first = i; exists = below; unfed = ap not unfed; before = []; path_is = refl }
    by_test again true fed =
        let k = fed_by p p.stages i fed in
        let lower = tree.later k.0 i k.1 k.2 in
        let from = again k.0 k.1 (omega arith) in
        let step = path-step p tree k.0 k.1 ∙ ap (λ o. k.0 ∷ option_map_or (path p) o []) k.2 in
        record {
          first = from.first;
          exists = from.exists;
          unfed = from.unfed;
          before = from.before ++ k.0 ∷ [];
          path_is = from.path_is ∙ ap (λ is. from.before ++ is) step ∙ sym (append_assoc from.before (k.0 ∷ []) (path p i));
        }

-- the arcs of a path go through each of its stages
through_path : (p : Plant) (front rest : List ℕ) (i c : ℕ) → onward_arcs_of p (front ++ (i ∷ rest)) ++ c ∷ [] ≡ onward_arcs_of p front ++ (onward_arcs p i ++ (onward_arcs_of p rest ++ c ∷ []))
through_path p front rest i c =
    rw (flat_map-append, append_assoc, append_assoc) refl

-- the plant with this policy in its place
abbrev with_policy : Policy → Plant → Plant
with_policy policy p = record p { policy = policy }

bound-kanban : (p : Plant) (i : ℕ) → p.policy ≡ Kanban → bound p i ≡ Some (stage_at p i).cards
bound-kanban p i is = subst (λ (q : Policy). bound (with_policy q p) i ≡ Some (stage_at p i).cards) (sym is) refl

bound-conwip : (p : Plant) (cards i : ℕ) → p.policy ≡ Conwip cards → bound p i ≡ Some cards
bound-conwip p cards i is = subst (λ (q : Policy). bound (with_policy q p) i ≡ Some cards) (sym is) refl

bound-base_stock : (p : Plant) (i : ℕ) → p.policy ≡ BaseStock → bound p i ≡ None
bound-base_stock p i is = subst (λ (q : Policy). bound (with_policy q p) i ≡ None) (sym is) refl

bound-extended : (p : Plant) (i : ℕ) → p.policy ≡ Extended → bound p i ≡ Some (stage_at p i).cards
bound-extended p i is = subst (λ (q : Policy). bound (with_policy q p) i ≡ Some (stage_at p i).cards) (sym is) refl

-- a circuit of the line through a stage, under CONWIP
bounded-conwip : (p : Plant) (cards i : ℕ) → IsSound p → i < length p.stages → p.policy ≡ Conwip cards → IsBounded p i cards
bounded-conwip p cards i sound below is =
    let from = comes_from_first p (length p.stages) i sound below below in
    let a = from.first in
    let rest = option_map_or (path p) (next p i) [] in
    let whole = from.path_is ∙ ap (λ is. from.before ++ is) (path-step p (IsSound-FeedsLater sound) i below) in
    let listed = Contains-map-filter (line_circuit p cards) (is_first p) (length p.stages) a from.exists from.unfed in
    let c = line_circuit p cards a in
    let through = ap (λ is. onward_arcs_of p is ++ conwip_arc p a ∷ []) whole ∙ through_path p from.before rest i (conwip_arc p a) in
    let before = onward_arcs_of p from.before in
    let after = onward_arcs_of p rest ++ conwip_arc p a ∷ [] in
    bounded p i cards c sound below (of_policy p c (rw (policy_circuits-conwip p cards is) listed)) refl
    (record { before = before; after = after; through = through })

-- a circuit of a stage's own cards, under a policy that has one for each stage
bounded-stage : (p : Plant) (i number : ℕ) (card_arc : ℕ → ℕ) → IsSound p → i < length p.stages → policy_circuits p ≡ map (stage_circuit p card_arc) (stage_numbers p) → bound p i ≡ Some (stage_at p i).cards → bound p i ≡ Some number → IsBounded p i number
bounded-stage p i number card_arc sound below each own bounded_by =
    let f = stage_circuit p card_arc in
    let same : Some (stage_at p i).cards ≡ Some number = sym own ∙ bounded_by in
    let cards_are : (stage_at p i).cards ≡ number = cc in
    let listed = of_policy p (f i) (rw each (Contains-map-range f (length p.stages) i below)) in
    bounded p i number (f i) sound below listed cards_are
    (record { before = []; after = card_arc i ∷ []; through = refl })

-- where a stage's bound is a number, a card circuit of that number goes through the stage
pub bounds-have-circuits : (p : Plant) → IsSound p → (i number : ℕ) → i < length p.stages → bound p i ≡ Some number → IsBounded p i number
bounds-have-circuits p sound i number below bounded_by = by_policy p.policy refl
  where
    by_policy : (policy : Policy) → p.policy ≡ policy → IsBounded p i number
    by_policy Kanban is =
        bounded-stage p i number (kanban_arc p) sound below (policy_circuits-kanban p is) (bound-kanban p i is) bounded_by
    by_policy (Conwip cards) is =
        let same : Some cards ≡ Some number = sym (bound-conwip p cards i is) ∙ bounded_by in
        let cards_are : cards ≡ number = cc in
        subst (IsBounded p i) cards_are (bounded-conwip p cards i sound below is)
    by_policy BaseStock is = let none : None ≡ Some number = sym (bound-base_stock p i is) ∙ bounded_by in cc
    by_policy Extended is =
        bounded-stage p i number (extended_arc p) sound below (policy_circuits-extended p is) (bound-extended p i is) bounded_by

-- so no more parts than the bound stand in a stage
pub bounds-hold : (p : Plant) → IsSound p → (s : State) → Reached (graph p) s → (i number : ℕ) → i < length p.stages → bound p i ≡ Some number → tokens_in s (onward_arcs p i) ≤ number
bounds-hold p sound s reached i number below bounded_by =
    let g = graph p in
    let b = bounds-have-circuits p sound i number below bounded_by in
    let circuit = All-contains (IsCardCircuit g) (circuits p) b.circuit (circuits-closed p sound) b.listed in
    let kept = circuit_keeps_number g s reached b.circuit.arcs circuit.closed in
    let parts = ap (tokens_in s) b.way.through ∙ sum_by-parts (λ a. length (place s a)) b.way.before (onward_arcs p i) b.way.after in
    omega (arith, kept, parts, circuit.number, b.cards)
