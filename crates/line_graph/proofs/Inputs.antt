-- The graph of a sound plant is an event graph: the ends of its arcs exist, no arc enters the feed, and each other
-- station has an arc in.
use Rattle.std.proofs.Common.{◌≡◌, ℕ, ◌+◌, ◌-◌, ◌<◌, ◌≤◌, Bool, true, false, cond, eqb, [], ◌∷◌, ◌++◌, length, get_or, Option, None, Some, refl, ap, ◌∙◌, arith}
use Rattle.std.specs.List.{Contains, flat_map, list_any}
use Rattle.std.specs.Option.{option_map_or}
use Rattle.std.proofs.lemmas.Bool.{eq-eqb, eqb-true, not-false}
use Rattle.std.proofs.lemmas.List.{get_or-map, get_or_default}
use Rattle.std.proofs.lemmas.List.Folds.{Any-from_list_any}
use Rattle.std.proofs.lemmas.List.Elements.{All-get_or, Contains-append_left, Contains-append_right}
use Rattle.line_base.specs.declared.event.Arc.{Arc}
use Rattle.plant_model.specs.declared.plant.Policy.{Policy}
use Rattle.plant_model.specs.declared.plant.Policy.TheVariants.{Kanban, Conwip, BaseStock, Extended}
use Rattle.plant_model.specs.Stages.{Stage}
use Rattle.plant_model.specs.declared.plant.Plant.{Plant}
use Rattle.plant_model.specs.Line.{no_stage, stage_at, machine_at, stage_numbers, machine_numbers, release, machine_station, deliver, station_count, receiver, starting, feeds, is_first}
use Rattle.plant_model.specs.Graph.{Row, worked_row, plain_row, onward, machine_rows, stage_rows, feed_row, card_row, demand_row, line_card_row, policy_rows, loop_rows, rows, graph}
use Rattle.plant_model.specs.Sound.{IsSound}
use Rattle.event_graph.specs.Network.{arc_count, arc, IsGraph}
use Rattle.plant_model.proofs.SoundPlants.{IsSoundStage-sound}
use Rattle.line_base.proofs.RangeLists.{Contains-map-range, Contains-map-filter, Contains-flat_map-range, Contains-head, Contains-tail}
use Rattle.line_graph.proofs.PolicyRows.{policy_rows-kanban, policy_rows-base_stock, policy_rows-extended, policy_rows-conwip}
use Rattle.line_graph.proofs.Sizes.{stations-graph, arc_count-graph}
use Rattle.line_graph.proofs.SmallRows.{IsSmallRow, rows-small}
use Rattle.line_graph.proofs.EachStation.{each_station}

-- some row enters the station
abbrev pub HasInput : Plant → ℕ → Type 0
HasInput p t = (r : Row) × Contains (rows p) r × (r.arc.to ≡ t)

-- the rows of stages, of the feed, of the policy stand among all
pub in_stages : (p : Plant) (i : ℕ) (r : Row) → i < length p.stages → Contains (stage_rows p i) r → Contains (rows p) r
unfolding rows
in_stages p i r below h =
    Contains-append_left (flat_map (stage_rows p) (stage_numbers p)) _ r (Contains-flat_map-range (stage_rows p) (length p.stages) i r below h)

pub in_machines : (p : Plant) (i j : ℕ) (r : Row) → i < length p.stages → j < length (stage_at p i).machines → Contains (machine_rows p i j) r → Contains (rows p) r
in_machines p i j r below inside h =
    in_stages p i r below (Contains-tail _ (flat_map (machine_rows p i) (machine_numbers p i)) r (Contains-flat_map-range (machine_rows p i) (length (stage_at p i).machines) j r inside h))

pub in_feed : (p : Plant) → Contains (rows p) (feed_row p)
unfolding rows
in_feed p =
    Contains-append_right (flat_map (stage_rows p) (stage_numbers p)) (feed_row p ∷ (policy_rows p ++ loop_rows p)) (feed_row p) (Contains-head (feed_row p) (policy_rows p ++ loop_rows p))

pub in_policy : (p : Plant) (r : Row) → Contains (policy_rows p) r → Contains (rows p) r
unfolding rows
in_policy p r h =
    Contains-append_right (flat_map (stage_rows p) (stage_numbers p)) (feed_row p ∷ (policy_rows p ++ loop_rows p)) r (Contains-tail (feed_row p) (policy_rows p ++ loop_rows p) r (Contains-append_left (policy_rows p) (loop_rows p) r h))

-- each machine has an arc from itself
machine-input : (p : Plant) (i j : ℕ) → i < length p.stages → j < length (stage_at p i).machines → HasInput p (machine_station p i j)
machine-input p i j below inside =
    let self = worked_row (machine_station p i j) (machine_station p i j) (machine_at p i j).servers in
    (self, in_machines p i j self below inside (Contains-head self (plain_row (machine_station p i j) (machine_station p i j) 1 0 ∷ onward p i j ∷ [])), refl)

-- the demands come to the delivery
deliver-input : (p : Plant) → HasInput p (deliver p)
deliver-input p = (feed_row p, in_feed p, refl)

-- the last machine of a stage goes on to what the stage feeds
onward-last : (p : Plant) (i j : ℕ) → j + 1 ≡ length (stage_at p i).machines → (onward p i j).arc.to ≡ receiver p i
onward-last p i j is =
    let here = plain_row (machine_station p i j) (receiver p i) (starting p i) (stage_at p i).travel in
    let there = worked_row (machine_station p i j) (machine_station p i (j + 1)) 0 in
    ap (λ (t : Bool). (cond t here there).arc.to) (eq-eqb (j + 1) (length (stage_at p i).machines) is)

receiver-input : (p : Plant) (i : ℕ) → IsSound p → i < length p.stages → HasInput p (receiver p i)
receiver-input p i sound below =
    let some = (IsSoundStage-sound p i sound below).some_machine in
    let j = length (stage_at p i).machines - 1 in
    let h = in_machines p i j (onward p i j) below (omega arith) (2, omega arith, refl) in
    (onward p i j, h, onward-last p i j (omega arith))

-- a stage that isn't first is fed by one
pub feeds-next : (i : ℕ) (s : Stage) → feeds i s ≡ true → s.feeds ≡ Some i
feeds-next i s h = by_fed s.feeds h
  where
    by_fed : (o : Option ℕ) → option_map_or (λ j. eqb j i) o false ≡ true → o ≡ Some i
    by_fed None e = cc
    by_fed (Some j) e = ap Some (eqb-true j i e)

receiver-fed : (p : Plant) (i : ℕ) → is_first p i ≡ false → (k : ℕ) × (k < length p.stages) × (receiver p k ≡ release p i)
receiver-fed p i h =
    let some = Any-from_list_any (feeds i) p.stages (not-false (list_any (feeds i) p.stages) h) in
    let k = some.0 in
    let here = get_or_default p.stages k no_stage some.1 some.2 ∙ some.3 in
    let fed = ap (λ (s : Stage). s.feeds) here ∙ feeds-next i some.1 some.4 in
    (k, some.2, ap (λ o. option_map_or (release p) o (deliver p)) fed)

-- each release has an arc in: from the policy, or from the stage that feeds it
release-input : (p : Plant) (i : ℕ) → IsSound p → i < length p.stages → HasInput p (release p i)
release-input p i sound below = by_policy p.policy refl
  where
    by_first : (cards : ℕ) → p.policy ≡ Conwip cards → (t : Bool) → is_first p i ≡ t → HasInput p (release p i)
    by_first cards is true first =
        let h = Contains-map-filter (line_card_row p) (is_first p) (length p.stages) i below first in
        (line_card_row p i, in_policy p (line_card_row p i) (rw (policy_rows-conwip p cards is) h), refl)
    by_first cards is false first =
        let fed = receiver-fed p i first in
        let input = receiver-input p fed.0 sound fed.1 in
        (input.0, input.1, input.2 ∙ fed.2)

    by_policy : (policy : Policy) → p.policy ≡ policy → HasInput p (release p i)
    by_policy Kanban is =
        (card_row p 0 i, in_policy p (card_row p 0 i) (rw (policy_rows-kanban p is) (Contains-map-range (card_row p 0) (length p.stages) i below)), refl)
    by_policy (Conwip cards) is = by_first cards is (is_first p i) refl
    by_policy BaseStock is =
        (demand_row p i, in_policy p (demand_row p i) (rw (policy_rows-base_stock p is) (Contains-map-range (demand_row p) (length p.stages) i below)), refl)
    by_policy Extended is =
        let both = λ (k : ℕ). demand_row p k ∷ card_row p ((stage_at p k).cards - starting p k) k ∷ [] in
        let h = Contains-flat_map-range both (length p.stages) i (demand_row p i) below (Contains-head (demand_row p i) (card_row p ((stage_at p i).cards - starting p i) i ∷ [])) in
        (demand_row p i, in_policy p (demand_row p i) (rw (policy_rows-extended p is) h), refl)

-- each station but the feed has an arc in
station-input : (p : Plant) (t : ℕ) → IsSound p → 1 ≤ t → t < station_count p → HasInput p t
station-input p t sound some below =
    each_station p
    (λ u. 1 ≤ u → HasInput p u)
    (λ none. absurd (omega arith))
    (λ i there h. release-input p i sound there)
    (λ i j there inside h. machine-input p i j there inside)
    (λ h. deliver-input p)
    t
    below
    some

-- arc a of the graph is that of row a
pub arc-graph : (p : Plant) (a : ℕ) (d : Row) → a < length (rows p) → arc (graph p) a ≡ (get_or (rows p) a d).arc
unfolding graph
arc-graph p a d below = get_or-map (λ r. r.arc) (rows p) a d _ below

pub IsGraph-graph : (p : Plant) → IsSound p → IsGraph (graph p)
IsGraph-graph p sound =
    let count = stations-graph p in
    let arcs = arc_count-graph p in
    let small = λ (a : ℕ). λ (below : a < arc_count (graph p)). All-get_or (IsSmallRow p) (rows p) a (feed_row p) (omega arith) (rows-small p sound) in
    let is = λ (a : ℕ). λ (below : a < arc_count (graph p)). arc-graph p a (feed_row p) (omega arith) in
    record {
      starts_exist = λ a below. rw (is a below, count) ((small a below).from);
      ends_exist = λ a below. rw (is a below, count) ((small a below).to);
      feed_has_no_input = λ a below enters. let to = (small a below).no_feed in let e = ap (λ (x : Arc). x.to) (is a below) in omega arith;
      others_have_input = λ t some below.
          let input = station-input p t sound some (rw count at below) in
          let a = input.1.0 in
          let inside : a < length (rows p) = input.1.1 in
          (a, omega arith, ap (λ (x : Arc). x.to) (arc-graph p a input.0 inside ∙ ap (λ (r : Row). r.arc) input.1.2) ∙ input.2);
    }
