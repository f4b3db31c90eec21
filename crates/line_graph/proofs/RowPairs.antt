-- What holds of each pair of rows that stand at the same place in the graphs of two plants of one shape.
use Rattle.std.proofs.Common.{◌≡◌, ℕ, suc, ◌-◌, ◌<◌, List, [], ◌∷◌, ◌++◌, length, get_or, map, refl, ap, ◌∙◌, subst, arith}
use Rattle.std.specs.List.{All, AllZip, flat_map, range_with_len}
use Rattle.std.proofs.lemmas.List.Elements.{All-head, All-tail, All-filter}
use Rattle.plant_model.specs.declared.plant.Policy.{Policy}
use Rattle.plant_model.specs.declared.plant.Policy.TheVariants.{Kanban, Conwip, BaseStock, Extended}
use Rattle.plant_model.specs.declared.plant.Plant.{Plant}
use Rattle.plant_model.specs.Line.{stage_at, loop_at, machine_at, stage_numbers, machine_numbers, release, machine_station, starting, is_first, first_stages}
use Rattle.plant_model.specs.Graph.{Row, worked_row, plain_row, onward, machine_rows, stage_rows, feed_row, card_row, demand_row, line_card_row, loop_row, policy_rows, loop_rows, rows}
use Rattle.line_graph.specs.MoreCards.{policy_without_cards}
use Rattle.line_base.proofs.RangeLists.{All-range}
use Rattle.line_graph.proofs.PolicyRows.{policy_rows-kanban, policy_rows-base_stock, policy_rows-extended, policy_rows-conwip}

-- ---- lists of pairs

AllZip-append : {X : Type 0} (R : X → X → Type 0) (xs ys vs ws : List X) → AllZip R xs ys → AllZip R vs ws → AllZip R (xs ++ vs) (ys ++ ws)
AllZip-append R [] [] vs ws first second = second
AllZip-append R [] (y ∷ ys) vs ws first second = absurd first
AllZip-append R (x ∷ xs) [] vs ws first second = absurd first
AllZip-append R (x ∷ xs) (y ∷ ys) vs ws first second = (first.0, AllZip-append R xs ys vs ws first.1 second)

AllZip-made : {X : Type 0} (R : X → X → Type 0) (f h : ℕ → X) (is : List ℕ) → All (λ i. R (f i) (h i)) is → AllZip R (map f is) (map h is)
AllZip-made R f h [] all = tt
AllZip-made R f h (i ∷ is) all =
    (All-head (λ k. R (f k) (h k)) i is all, AllZip-made R f h is (All-tail (λ k. R (f k) (h k)) i is all))

AllZip-joined : {X : Type 0} (R : X → X → Type 0) (f h : ℕ → List X) (is : List ℕ) → All (λ i. AllZip R (f i) (h i)) is → AllZip R (flat_map f is) (flat_map h is)
AllZip-joined R f h [] all = tt
AllZip-joined R f h (i ∷ is) all =
    AllZip-append R (f i) (h i) (flat_map f is) (flat_map h is) (All-head (λ k. AllZip R (f k) (h k)) i is all) (AllZip-joined R f h is (All-tail (λ k. AllZip R (f k) (h k)) i is all))

-- what holds at each place
pub AllZip-from_get_or : {X : Type 0} (R : X → X → Type 0) (xs ys : List X) (d e : X) → length xs ≡ length ys → ((k : ℕ) → k < length xs → R (get_or xs k d) (get_or ys k e)) → AllZip R xs ys
AllZip-from_get_or R [] [] d e long h = tt
AllZip-from_get_or R [] (y ∷ ys) d e long h = absurd (omega (arith, long))
AllZip-from_get_or R (x ∷ xs) [] d e long h = absurd (omega (arith, long))
AllZip-from_get_or R (x ∷ xs) (y ∷ ys) d e long h =
    (h 0 (omega arith), AllZip-from_get_or R xs ys d e (omega (arith, long)) (λ k low. h (suc k) (omega arith)))

pub AllZip-mapped : {X Y : Type 0} (R : Y → Y → Type 0) (f h : X → Y) (xs ys : List X) → AllZip (λ x y. R (f x) (h y)) xs ys → AllZip R (map f xs) (map h ys)
AllZip-mapped R f h [] [] all = tt
AllZip-mapped R f h [] (y ∷ ys) all = absurd all
AllZip-mapped R f h (x ∷ xs) [] all = absurd all
AllZip-mapped R f h (x ∷ xs) (y ∷ ys) all = (all.0, AllZip-mapped R f h xs ys all.1)

-- a part that is the same in each pair
pub map-pairs : {X Y : Type 0} (R : X → X → Type 0) (f : X → Y) (xs ys : List X) → ((x y : X) → R x y → f y ≡ f x) → AllZip R xs ys → map f ys ≡ map f xs
map-pairs R f [] [] same all = refl
map-pairs R f [] (y ∷ ys) same all = absurd all
map-pairs R f (x ∷ xs) [] same all = absurd all
map-pairs R f (x ∷ xs) (y ∷ ys) same all =
    ap (λ z. z ∷ map f ys) (same x y all.0) ∙ ap (λ zs. f x ∷ zs) (map-pairs R f xs ys same all.1)

-- ---- rows

-- the plants have as many stages, machines and loops, the same first stages, and the same policy but for its cards
pub record HaveOneShape (p q : Plant) : Type 0 where
  pub stages : length p.stages ≡ length q.stages
  pub machines : (i : ℕ) → length (stage_at p i).machines ≡ length (stage_at q i).machines
  pub loops : length p.loops ≡ length q.loops
  pub firsts : first_stages p ≡ first_stages q
  pub policy : policy_without_cards p.policy ≡ policy_without_cards q.policy

-- the rows of a stage under extended kanban
abbrev extended_rows_of : Plant → ℕ → List Row
extended_rows_of p i = demand_row p i ∷ card_row p ((stage_at p i).cards - starting p i) i ∷ []

-- R holds of each pair of rows
pub record EachPair (R : Row → Row → Type 0) (p q : Plant) : Type 0 where
  pub entry : (i : ℕ) → i < length p.stages → R (worked_row (release p i) (machine_station p i 0) 0) (worked_row (release q i) (machine_station q i 0) 0)
  pub servers : (i j : ℕ) → i < length p.stages → R (worked_row (machine_station p i j) (machine_station p i j) (machine_at p i j).servers) (worked_row (machine_station q i j) (machine_station q i j) (machine_at q i j).servers)
  pub order : (i j : ℕ) → i < length p.stages → R (plain_row (machine_station p i j) (machine_station p i j) 1 0) (plain_row (machine_station q i j) (machine_station q i j) 1 0)
  pub onward : (i j : ℕ) → i < length p.stages → R (onward p i j) (onward q i j)
  pub feed : R (feed_row p) (feed_row q)
  pub demand : (i : ℕ) → i < length p.stages → R (demand_row p i) (demand_row q i)
  pub kanban : (i : ℕ) → i < length p.stages → R (card_row p 0 i) (card_row q 0 i)
  pub extended : p.policy ≡ Extended → q.policy ≡ Extended → (i : ℕ) → i < length p.stages → R (card_row p ((stage_at p i).cards - starting p i) i) (card_row q ((stage_at q i).cards - starting q i) i)
  pub conwip : (c d : ℕ) → p.policy ≡ Conwip c → q.policy ≡ Conwip d → (i : ℕ) → i < length p.stages → R (line_card_row p i) (line_card_row q i)
  pub loops : (k : ℕ) → k < length p.loops → R (loop_row p (loop_at p k)) (loop_row q (loop_at q k))

module _ (R : Row → Row → Type 0) (p q : Plant) (shape : HaveOneShape p q) (each : EachPair R p q) where
  -- lists made number by number over the stages
  over_stages : (f h : ℕ → Row) → ((i : ℕ) → i < length p.stages → R (f i) (h i)) → AllZip R (map f (stage_numbers p)) (map h (stage_numbers q))
  over_stages f h all =
      subst (λ n. AllZip R (map f (stage_numbers p)) (map h (range_with_len 0 n))) shape.stages (AllZip-made R f h (stage_numbers p) (All-range (λ i. R (f i) (h i)) (length p.stages) all))

  joined_stages : (f h : ℕ → List Row) → ((i : ℕ) → i < length p.stages → AllZip R (f i) (h i)) → AllZip R (flat_map f (stage_numbers p)) (flat_map h (stage_numbers q))
  joined_stages f h all =
      subst (λ n. AllZip R (flat_map f (stage_numbers p)) (flat_map h (range_with_len 0 n))) shape.stages (AllZip-joined R f h (stage_numbers p) (All-range (λ i. AllZip R (f i) (h i)) (length p.stages) all))

  machine_pairs : (i j : ℕ) → i < length p.stages → AllZip R (machine_rows p i j) (machine_rows q i j)
  machine_pairs i j low = (each.servers i j low, (each.order i j low, (each.onward i j low, tt)))

  stage_pairs : (i : ℕ) → i < length p.stages → AllZip R (stage_rows p i) (stage_rows q i)
  stage_pairs i low =
      let n = length (stage_at p i).machines in
      let same = AllZip-joined R (machine_rows p i) (machine_rows q i) (machine_numbers p i) (All-range (λ j. AllZip R (machine_rows p i j) (machine_rows q i j)) n (λ j inside. machine_pairs i j low)) in
      (each.entry i low, subst (λ m. AllZip R (flat_map (machine_rows p i) (machine_numbers p i)) (flat_map (machine_rows q i) (range_with_len 0 m))) (shape.machines i) same)

  first_pairs : (c d : ℕ) → p.policy ≡ Conwip c → q.policy ≡ Conwip d → AllZip R (map (line_card_row p) (first_stages p)) (map (line_card_row q) (first_stages q))
  first_pairs c d p_is q_is =
      let inside = All-filter (is_first p) (λ i. i < length p.stages) (stage_numbers p) (All-range (λ i. i < length p.stages) (length p.stages) (λ i low. low)) in
      let both = AllZip-made R (line_card_row p) (line_card_row q) (first_stages p) (λ k e low. each.conwip c d p_is q_is _ (inside k e low)) in
      subst (λ is. AllZip R (map (line_card_row p) (first_stages p)) (map (line_card_row q) is)) shape.firsts both

  policy_pairs : AllZip R (policy_rows p) (policy_rows q)
  policy_pairs = by_policies p.policy q.policy refl refl shape.policy
    where
      by_policies : (P Q : Policy) → p.policy ≡ P → q.policy ≡ Q → policy_without_cards P ≡ policy_without_cards Q → AllZip R (policy_rows p) (policy_rows q)
      by_policies Kanban Kanban p_is q_is same =
          rw (policy_rows-kanban p p_is, policy_rows-kanban q q_is) (over_stages (card_row p 0) (card_row q 0) each.kanban)
      by_policies BaseStock BaseStock p_is q_is same =
          rw (policy_rows-base_stock p p_is, policy_rows-base_stock q q_is) (over_stages (demand_row p) (demand_row q) each.demand)
      by_policies (Conwip c) (Conwip d) p_is q_is same =
          rw (policy_rows-conwip p c p_is, policy_rows-conwip q d q_is) (first_pairs c d p_is q_is)
      by_policies Extended Extended p_is q_is same =
          rw (policy_rows-extended p p_is, policy_rows-extended q q_is) (joined_stages (extended_rows_of p) (extended_rows_of q) (λ i low. (each.demand i low, (each.extended p_is q_is i low, tt))))
      by_policies _ _ p_is q_is same = absurd cc

  pub rows-pairs : AllZip R (rows p) (rows q)
  unfolding rows
  rows-pairs =
      let stages = joined_stages (stage_rows p) (stage_rows q) stage_pairs in
      let loops = AllZip-mapped R (loop_row p) (loop_row q) p.loops q.loops (AllZip-from_get_or (λ l m. R (loop_row p l) (loop_row q m)) p.loops q.loops _ _ shape.loops each.loops) in
      let rest = AllZip-append R (policy_rows p) (policy_rows q) (loop_rows p) (loop_rows q) policy_pairs loops in
      AllZip-append R (flat_map (stage_rows p) (stage_numbers p)) (flat_map (stage_rows q) (stage_numbers q)) _ _ stages (each.feed, rest)
