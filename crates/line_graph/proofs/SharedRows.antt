-- Two plants that differ in their policy alone share all rows but the policy's, where their starting stocks are the
-- same.
use Rattle.std.proofs.Common.{◌≡◌, ℕ, zero, suc, Option, None, Some, ◌+◌, ◌-◌, ◌<◌, cond, eqb, List, [], ◌∷◌, ◌++◌, length, get_or, refl, sym, ap, ◌∙◌, subst, arith}
use Rattle.std.specs.List.{All, Contains, flat_map, sum_by}
use Rattle.std.specs.Option.{option_map_or}
use Rattle.std.proofs.lemmas.List.{length-map, get_or-map}
use Rattle.std.proofs.lemmas.List.Elements.{All-contains, All-head, All-tail, Contains-append_right}
use Rattle.std.proofs.lemmas.List.Sums.{sum_by-cons}
use Rattle.plant_model.specs.declared.plant.Policy.{Policy}
use Rattle.plant_model.specs.declared.plant.Policy.TheVariants.{Kanban, BaseStock, Extended}
use Rattle.plant_model.specs.declared.plant.CardLoop.{CardLoop}
use Rattle.plant_model.specs.declared.plant.Plant.{Plant}
use Rattle.plant_model.specs.Line.{next, path_within, stage_at, stage_numbers, machine_numbers, release, machine_station, receiver, starting, path, up_to, stock_between}
use Rattle.plant_model.specs.Graph.{Row, worked_row, plain_row, onward, machine_rows, stage_rows, feed_row, card_row, demand_row, loop_row, policy_rows, loop_rows, rows}
use Rattle.plant_model.specs.Sound.{IsSound}
use Rattle.plant_model.proofs.SoundPlants.{IsSoundLoop-sound}
use Rattle.plant_model.proofs.LayoutPaths.{path-stages, All-up_to}
use Rattle.line_graph.specs.Laws.{under}
use Rattle.line_base.proofs.RangeLists.{Contains-map-range, Contains-flat_map-range, Contains-head, Contains-tail}
use Rattle.line_graph.proofs.PolicyRows.{policy_rows-kanban, policy_rows-base_stock, policy_rows-extended}
use Rattle.line_graph.proofs.GraphRows.{EachPolicyRow, All-rows}
use Rattle.line_graph.proofs.Inputs.{in_stages, in_machines, in_feed, in_policy}

-- the rows of the loops, and of three policies, stand among all
in_loops : (p : Plant) (k : ℕ) (d : CardLoop) → k < length p.loops → Contains (rows p) (loop_row p (get_or p.loops k d))
unfolding rows
in_loops p k d below =
    let r = loop_row p (get_or p.loops k d) in
    let here : Contains (loop_rows p) r = (k, rw length-map below, get_or-map (loop_row p) p.loops k d r below) in
    Contains-append_right (flat_map (stage_rows p) (stage_numbers p)) (feed_row p ∷ (policy_rows p ++ loop_rows p)) r (Contains-tail (feed_row p) (policy_rows p ++ loop_rows p) r (Contains-append_right (policy_rows p) (loop_rows p) r here))

pub in_kanban : (p : Plant) (i : ℕ) → p.policy ≡ Kanban → i < length p.stages → Contains (rows p) (card_row p 0 i)
in_kanban p i is below =
    in_policy p (card_row p 0 i) (rw (policy_rows-kanban p is) (Contains-map-range (card_row p 0) (length p.stages) i below))

pub in_base_stock : (p : Plant) (i : ℕ) → p.policy ≡ BaseStock → i < length p.stages → Contains (rows p) (demand_row p i)
in_base_stock p i is below =
    in_policy p (demand_row p i) (rw (policy_rows-base_stock p is) (Contains-map-range (demand_row p) (length p.stages) i below))

-- the two rows of a stage under extended kanban
abbrev pub extended_card_row : Plant → ℕ → Row
extended_card_row p i = card_row p ((stage_at p i).cards - starting p i) i

abbrev extended_rows_of : Plant → ℕ → List Row
extended_rows_of p i = demand_row p i ∷ extended_card_row p i ∷ []

pub in_extended_demand : (p : Plant) (i : ℕ) → p.policy ≡ Extended → i < length p.stages → Contains (rows p) (demand_row p i)
in_extended_demand p i is below =
    let here = Contains-head (demand_row p i) (extended_card_row p i ∷ []) in
    in_policy p (demand_row p i) (rw (policy_rows-extended p is) (Contains-flat_map-range (extended_rows_of p) (length p.stages) i (demand_row p i) below here))

pub in_extended_card : (p : Plant) (i : ℕ) → p.policy ≡ Extended → i < length p.stages → Contains (rows p) (extended_card_row p i)
in_extended_card p i is below =
    let here = Contains-tail (demand_row p i) (extended_card_row p i ∷ []) (extended_card_row p i) (Contains-head (extended_card_row p i) []) in
    in_policy p (extended_card_row p i) (rw (policy_rows-extended p is) (Contains-flat_map-range (extended_rows_of p) (length p.stages) i (extended_card_row p i) below here))

-- stages start with the same stock under both policies
abbrev pub StartAlike : Plant → Plant → Type 0
StartAlike p q = (i : ℕ) → i < length p.stages → starting p i ≡ starting q i

-- a sum of what is the same at each element is the same
pub sum_by-alike : (f g : ℕ → ℕ) (is : List ℕ) → All (λ i. f i ≡ g i) is → sum_by f is ≡ sum_by g is
sum_by-alike f g [] h = refl
sum_by-alike f g (i ∷ is) h =
    let head = All-head (λ j. f j ≡ g j) i is h in
    let rest = sum_by-alike f g is (All-tail (λ j. f j ≡ g j) i is h) in
    omega (arith, sum_by-cons f i is, sum_by-cons g i is)

-- the path of a stage is the same under every policy
path_within-under : (p : Plant) (policy : Policy) (n a : ℕ) → path_within n (under policy p) a ≡ path_within n p a
path_within-under p policy zero a = refl
path_within-under p policy (suc n) a = ap (λ (is : List ℕ). a ∷ is) (rest (next p a) (path_within-under p policy n))
  where
    rest : (o : Option ℕ) → ((b : ℕ) → path_within n (under policy p) b ≡ path_within n p b) → option_map_or (path_within n (under policy p)) o [] ≡ option_map_or (path_within n p) o []
    rest None same = refl
    rest (Some b) same = same b

-- so loops hold the same stock
abbrev pub HoldAlike : Plant → Plant → Type 0
HoldAlike p q =
    (k : ℕ) (d : CardLoop) → k < length p.loops → stock_between p (get_or p.loops k d).first (get_or p.loops k d).last ≡ stock_between q (get_or p.loops k d).first (get_or p.loops k d).last

pub HoldAlike-sound : (p : Plant) (policy : Policy) → IsSound p → StartAlike p (under policy p) → HoldAlike p (under policy p)
HoldAlike-sound p policy sound alike k d below =
    let l = get_or p.loops k d in
    let first = (IsSoundLoop-sound p k d sound below).first_exists in
    let inside = All-up_to (λ j. j < length p.stages) l.last (path p l.first) (path-stages p l.first sound first) in
    let stock = sum_by-alike (starting p) (starting (under policy p)) (up_to l.last (path p l.first)) (λ n e in'. alike _ (inside n e in')) in
    let same = path_within-under p policy (length p.stages) l.first in
    stock ∙ ap (λ (is : List ℕ). sum_by (starting (under policy p)) (up_to l.last is)) (sym same)

-- what holds of each row of the one plant, and of the rows of the other's policy, holds of each row of the other
pub shared : (p : Plant) (policy : Policy) (P : Row → Type 0) → StartAlike p (under policy p) → HoldAlike p (under policy p) → All P (rows p) → EachPolicyRow P (under policy p) → All P (rows (under policy p))
shared p policy P alike hold all each =
    let q = under policy p in
    let have = λ (r : Row). λ (h : Contains (rows p) r). All-contains P (rows p) r all h in
    All-rows P q (record {
      stages = λ i below. record {
        entry = have _ (in_stages p i _ below (Contains-head _ (flat_map (machine_rows p i) (machine_numbers p i))));
        servers = λ j inside. have _ (in_machines p i j _ below inside (0, omega arith, refl));
        order = λ j inside. have _ (in_machines p i j _ below inside (1, omega arith, refl));
        onward = λ j inside.
            let same = ap (λ (s : ℕ). cond (eqb (j + 1) (length (stage_at p i).machines)) (plain_row (machine_station p i j) (receiver p i) s (stage_at p i).travel) (worked_row (machine_station p i j) (machine_station p i (j + 1)) 0)) (alike i below) in
            subst P same (have (onward p i j) (in_machines p i j (onward p i j) below inside (2, omega arith, refl)));
      };
      feed = have (feed_row p) (in_feed p);
      policy = each;
      loops = λ k d below.
          let l = get_or p.loops k d in
          let same = ap (λ (s : ℕ). plain_row (receiver p l.last) (release p l.first) (l.cards - s) l.card_time) (hold k d below) in
          subst P same (have (loop_row p l) (in_loops p k d below));
    })

-- and the other way: what holds of each row of the plant under the other policy holds of each row of the plant
pub shared_back : (p : Plant) (policy : Policy) (P : Row → Type 0) → IsSound p → StartAlike p (under policy p) → All P (rows (under policy p)) → EachPolicyRow P p → All P (rows p)
shared_back p policy P sound alike all each =
    shared (under policy p) p.policy P (λ i below. sym (alike i below)) (λ k d below. sym (HoldAlike-sound p policy sound alike k d below)) all each
