-- A sound plant with one count of cards, enough for its stock and within the limit, is sound.
use Rattle.std.proofs.Common.{codes, ◌≡◌, ℕ, suc, ◌+◌, ◌*◌, ◌<◌, ◌≤◌, Bool, true, false, cond, not, ◌&&◌, ◌||◌, ltb, eqb, List, [], ◌∷◌, ◌++◌, length, get_or, take, map, refl, sym, ap, ◌∙◌, subst, arith, bytes_eq}
use Rattle.std.specs.List.{Contains, filter, range_with_len, list_any, sum_by, take-map}
use Rattle.std.proofs.Math.ListN.{get_or-map}
use Rattle.std.proofs.lemmas.Bool.{le-ltb}
use Rattle.std.proofs.lemmas.List.{length-map, map-id}
use Rattle.std.proofs.lemmas.List.Elements.{All-contains}
use Rattle.line_base.specs.declared.limits.TheConstants.{MAX_STAGES, MAX_STATIONS, MAX_DEMANDS, MAX_TABLE, MAX_LOOPS, MAX_OBSERVE, MAX_CARDS}
use Rattle.plant_model.specs.declared.error.PlantError.{PlantError}
use Rattle.plant_model.specs.declared.plant.Policy.{Policy}
use Rattle.plant_model.specs.declared.plant.Policy.TheVariants.{Kanban, Conwip, BaseStock, Extended}
use Rattle.plant_model.specs.Stages.{Stage}
use Rattle.plant_model.specs.declared.plant.CardLoop.{CardLoop}
use Rattle.plant_model.specs.declared.plant.Plant.{Plant}
use Rattle.plant_model.specs.declared.place.FileTable.TheVariants.{InStage, InLoop}
use Rattle.plant_model.specs.Place.{key_of}
use Rattle.plant_model.specs.Line.{no_stage, no_loop, stage_at, stage_numbers, station_count, stock_under, starting, feeds, is_first, first_stages, path, up_to, is_downstream, path_stock, stock_between}
use Rattle.plant_model.specs.Refusals.{refuse_if, each_from, each, bad_name, bad_names, stage_name_twice, names_twice, machine_name_twice, above, empty, cards_out_of_range, top_out_of_range, stage_out_of_range, out_of_range, feeds_not_later, all_feeds_not_later, second_final, second_finals, stage_times_count, times_counts, demand_order, too_few, too_few_in_line, too_few_in_stage, too_few_under, is_loop, too_few_in_loop, too_few_cards, not_downstream, loops_not_downstream, larger, too_large, parts_refusals, whole_refusals, refusals}
use Rattle.plant_model.specs.Sound.{IsSound}
use Rattle.plant_model.proofs.NoRefusals.{append-nil_left, append-nil_right, above-none}
use Rattle.plant_model.proofs.Soundness.{Parts}
use Rattle.plant_model.proofs.SoundPlants.{PassesAll, PassesAll-sound, top-in_range, stage_in_range-from}
use Rattle.event_graph.specs.GreatestValue.{greatest}
use Rattle.event_graph.proofs.Greatest.{le-greatest}
use Rattle.line_base.proofs.RangeLists.{Contains-map-range, Contains-map-filter}
use Rattle.line_graph.proofs.CardlessPlants.{deliver-same, path-same}
use Rattle.card_sizing.specs.Sized.{has_single_count, policy_with, cards_under, stage_with, sized_plant, lowest_under, lowest}
use Rattle.card_sizing.proofs.SizedStages.{differ-sized, length-sized, stage_at-sized, policy-sized, loops-sized, no_loops}

-- ---- lists of refusals

both-nil : {X : Type 0} (xs ys : List X) → xs ≡ [] → ys ≡ [] → xs ++ ys ≡ []
both-nil xs ys left right = ap (λ zs. zs ++ ys) left ∙ right

-- where an element's being refused nothing carries over to what is made of it
each_from-kept : {X : Type 0} (g h : ℕ → X → List PlantError) (f : X → X) (k : ℕ) (xs : List X) → ((i : ℕ) (x : X) → h i x ≡ [] → g i (f x) ≡ []) → each_from h k xs ≡ [] → each_from g k (map f xs) ≡ []
each_from-kept g h f k [] kept none = refl
each_from-kept g h f k (x ∷ xs) kept none =
    both-nil (g k (f x)) _ (kept k x (append-nil_left (h k x) _ none)) (each_from-kept g h f (k + 1) xs kept (append-nil_right (h k x) _ none))

each_from-weaker : {X : Type 0} (g h : ℕ → X → List PlantError) (k : ℕ) (xs : List X) → ((i : ℕ) (x : X) → h i x ≡ [] → g i x ≡ []) → each_from h k xs ≡ [] → each_from g k xs ≡ []
each_from-weaker g h k [] kept none = refl
each_from-weaker g h k (x ∷ xs) kept none =
    both-nil (g k x) _ (kept k x (append-nil_left (h k x) _ none)) (each_from-weaker g h (k + 1) xs kept (append-nil_right (h k x) _ none))

-- where each element is refused nothing, by its number
each_from-nil : {X : Type 0} (g : ℕ → X → List PlantError) (k : ℕ) (xs : List X) (d : X) → ((i j : ℕ) → i < length xs → k + i ≡ j → g j (get_or xs i d) ≡ []) → each_from g k xs ≡ []
each_from-nil g k [] d none = refl
each_from-nil g k (x ∷ xs) d none =
    both-nil (g k x) _ (none 0 k (omega arith) (omega arith)) (each_from-nil g (k + 1) xs d (λ i j below is. none (suc i) j (omega arith) (omega arith)))

refuse_if-passed : (test : Bool) (e : PlantError) → test ≡ false → refuse_if test e ≡ []
refuse_if-passed test e h = ap (λ (b : Bool). refuse_if b e) h

refuse_if-same : (test other : Bool) (e : PlantError) → test ≡ other → refuse_if test e ≡ refuse_if other e
refuse_if-same test other e h = ap (λ (b : Bool). refuse_if b e) h

above-fits : (place : List ℕ) (limit n : ℕ) → n ≤ limit → above place limit n ≡ []
above-fits place limit n h = refuse_if-passed (ltb limit n) _ (le-ltb limit n h)

too_few-enough : (place : List ℕ) (cards stock : ℕ) → stock ≤ cards → too_few place cards stock ≡ []
too_few-enough place cards stock h = refuse_if-passed (ltb cards stock) _ (le-ltb cards stock h)

-- ---- numbers of stages

Contains-range : (n i : ℕ) → i < n → Contains (range_with_len 0 n) i
Contains-range n i below =
    subst (λ (is : List ℕ). Contains is i) (map-id (range_with_len 0 n)) (Contains-map-range (λ (k : ℕ). k) n i below)

Contains-filter-range : (test : ℕ → Bool) (n i : ℕ) → i < n → test i ≡ true → Contains (filter test (range_with_len 0 n)) i
Contains-filter-range test n i below passes =
    subst (λ (is : List ℕ). Contains is i) (map-id (filter test (range_with_len 0 n))) (Contains-map-filter (λ (k : ℕ). k) test n i below passes)

-- ---- stages with their count

names-kept : (policy : Policy) (c : ℕ) (name : List ℕ) (stages : List Stage) → list_any (λ other. bytes_eq other.name name) (map (stage_with policy c) stages) ≡ list_any (λ other. bytes_eq other.name name) stages
names-kept policy c name [] = refl
names-kept policy c name (s ∷ stages) = ap (λ b. bytes_eq s.name name || b) (names-kept policy c name stages)

name_twice-kept : (policy : Policy) (c : ℕ) (stages : List Stage) (i : ℕ) (s : Stage) → stage_name_twice (map (stage_with policy c) stages) i (stage_with policy c s) ≡ stage_name_twice stages i s
name_twice-kept policy c stages i s =
    let before = ap (list_any (λ (other : Stage). bytes_eq other.name s.name)) (take-map (stage_with policy c) i stages) ∙ names-kept policy c s.name (take i stages) in
    ap (λ (refused : List PlantError). refused ++ each (machine_name_twice i s.machines) s.machines) (refuse_if-same _ _ _ before)

cards_under-small : (policy : Policy) (c own : ℕ) → c ≤ MAX_CARDS → own ≤ MAX_CARDS → cards_under policy c own ≤ MAX_CARDS
cards_under-small Kanban c own few small = few
cards_under-small (Conwip _) c own few small = small
cards_under-small BaseStock c own few small = small
cards_under-small Extended c own few small = few

stage-in_range : (policy : Policy) (c i : ℕ) (s : Stage) → c ≤ MAX_CARDS → stage_out_of_range i s ≡ [] → stage_out_of_range i (stage_with policy c s) ≡ []
stage-in_range policy c i s few none =
    let range = stage_in_range-from i s none in
    let cards = above-fits (key_of (InStage i) (codes "cards")) MAX_CARDS (cards_under policy c s.cards) (cards_under-small policy c s.cards few (above-none _ MAX_CARDS s.cards range.second)) in
    both-nil _ _ range.first (both-nil _ _ cards (both-nil _ _ range.third (both-nil _ _ range.fourth (both-nil _ _ range.fifth range.sixth))))

line-in_range : (policy : Policy) (c : ℕ) → c ≤ MAX_CARDS → cards_out_of_range (policy_with c policy) ≡ []
line-in_range Kanban c few = refl
line-in_range (Conwip _) c few = above-fits _ MAX_CARDS c few
line-in_range BaseStock c few = refl
line-in_range Extended c few = refl

empty-kept : (place : List ℕ) (f : Stage → Stage) (stages : List Stage) → empty place stages ≡ [] → empty place (map f stages) ≡ []
empty-kept place f [] none = none
empty-kept place f (s ∷ stages) none = refl

module _ (p : Plant) (c : ℕ) (sound : IsSound p) where
  passes : PassesAll p
  passes = PassesAll-sound p sound

  parts : Parts p
  parts = passes.parts

  bad_names-sized : bad_names (sized_plant p c) ≡ []
  unfolding sized_plant
  bad_names-sized = each_from-kept bad_name bad_name (stage_with p.policy c) 0 p.stages (λ i s none. none) parts.named

  names_twice-sized : names_twice (sized_plant p c) ≡ []
  unfolding sized_plant
  names_twice-sized =
      let f = stage_with p.policy c in
      each_from-kept (stage_name_twice (map f p.stages)) (stage_name_twice p.stages) f 0 p.stages (λ i s none. name_twice-kept p.policy c p.stages i s ∙ none) parts.once

  out_of_range-sized : c ≤ MAX_CARDS → out_of_range (sized_plant p c) ≡ []
  unfolding sized_plant
  out_of_range-sized few =
      let top = top-in_range p parts.in_range in
      let rest = append-nil_right (top_out_of_range p) _ parts.in_range in
      let f = stage_with p.policy c in
      let stages = each_from-kept stage_out_of_range stage_out_of_range f 0 p.stages (λ i s none. stage-in_range p.policy c i s few none) (append-nil_left (each stage_out_of_range p.stages) _ rest) in
      let loops = append-nil_right (each stage_out_of_range p.stages) _ rest in
      let head = both-nil _ _ top.first (both-nil _ _ (line-in_range p.policy c few) (both-nil _ _ top.third (both-nil _ _ top.fourth (both-nil _ _ top.fifth (empty-kept _ f p.stages top.sixth))))) in
      both-nil _ _ head (both-nil _ _ stages loops)

  -- what is refused of a stage by the number of stages and by what the count leaves
  each-sized : (refused : ℕ → ℕ → Stage → List PlantError) → ((n i : ℕ) (s : Stage) → refused n i s ≡ [] → refused n i (stage_with p.policy c s) ≡ []) → each (refused (length p.stages)) p.stages ≡ [] → each (refused (length (sized_plant p c).stages)) (sized_plant p c).stages ≡ []
  unfolding sized_plant
  each-sized refused kept none =
      let f = stage_with p.policy c in
      let n = length p.stages in
      subst (λ (m : ℕ). each (refused m) (map f p.stages) ≡ []) (sym (length-map p.stages f)) (
      each_from-kept (refused n) (refused n) f 0 p.stages (kept n) none)

  feeds-sized : all_feeds_not_later (sized_plant p c) ≡ []
  feeds-sized = each-sized feeds_not_later (λ n i s none. none) parts.later

  finals-sized : second_finals (sized_plant p c) ≡ []
  finals-sized = each-sized second_final (λ n i s none. none) parts.one_final

  times-sized : times_counts (sized_plant p c) ≡ []
  unfolding sized_plant
  times-sized =
      let n = length p.demands in
      each_from-kept (stage_times_count n) (stage_times_count n) (stage_with p.policy c) 0 p.stages (λ i s none. none) passes.times_counted

  order-sized : demand_order (sized_plant p c) ≡ []
  unfolding sized_plant
  order-sized = passes.in_order

  -- what the sizes of a plant are refused for, by the numbers of its stages and of its stations
  sizes-sized : too_large (sized_plant p c) ≡ []
  unfolding sized_plant
  sizes-sized =
      let q = sized_plant p c in
      let large = λ (n t : ℕ).
      larger (codes "stages") MAX_STAGES n
      ++ (larger (codes "stations") MAX_STATIONS t
      ++ (larger (codes "demands") MAX_DEMANDS (length p.demands)
      ++ (larger (codes "table") MAX_TABLE (t * length p.demands)
      ++ (larger (codes "loops") MAX_LOOPS (length p.loops)
      ++ larger (codes "observe") MAX_OBSERVE (length p.observe))))) in
      let stations = ap (λ (n : ℕ). n + 1) (deliver-same p q (differ-sized p c)) in
      let few = subst (λ (t : ℕ). large (length p.stages) t ≡ []) stations passes.small in
      subst (λ (n : ℕ). large n (station_count q) ≡ []) (sym (length-sized p c)) few

  -- ---- stock, which the count leaves, and paths

  stock-stages : (stages : List Stage) → map (λ (s : Stage). s.stock) (map (stage_with p.policy c) stages) ≡ map (λ (s : Stage). s.stock) stages
  stock-stages [] = refl
  stock-stages (s ∷ stages) = ap (λ rest. s.stock ∷ rest) (stock-stages stages)

  stock-sized : (i : ℕ) → (stage_at (sized_plant p c) i).stock ≡ (stage_at p i).stock
  unfolding sized_plant
  stock-sized i =
      let stock = λ (s : Stage). s.stock in
      sym (get_or-map stock (map (stage_with p.policy c) p.stages) i no_stage) ∙ ap (λ (xs : List ℕ). get_or xs i 0) (stock-stages p.stages) ∙ get_or-map stock p.stages i no_stage

  stock_under-kept : (policy : Policy) (s t : Stage) → (policy ≡ Kanban → ⊥) → s.stock ≡ t.stock → stock_under (policy_with c policy) s ≡ stock_under policy t
  stock_under-kept Kanban s t other same = absurd (other refl)
  stock_under-kept (Conwip _) s t other same = same
  stock_under-kept BaseStock s t other same = same
  stock_under-kept Extended s t other same = same

  pub starting-sized : (p.policy ≡ Kanban → ⊥) → (i : ℕ) → starting (sized_plant p c) i ≡ starting p i
  starting-sized other i =
      rw (policy-sized p c) (stock_under-kept p.policy (stage_at (sized_plant p c) i) (stage_at p i) other (stock-sized i))

  path-sized : (a : ℕ) → path (sized_plant p c) a ≡ path p a
  path-sized a = sym (path-same p (sized_plant p c) (differ-sized p c) a)

  path_stock-sized : (p.policy ≡ Kanban → ⊥) → (a : ℕ) → path_stock (sized_plant p c) a ≡ path_stock p a
  path_stock-sized other a =
      ap (sum_by (starting (sized_plant p c))) (path-sized a) ∙ (λ j. sum_by (λ (i : ℕ). starting-sized other i j) (path p a))

  pub stock_between-sized : (p.policy ≡ Kanban → ⊥) → (a b : ℕ) → stock_between (sized_plant p c) a b ≡ stock_between p a b
  stock_between-sized other a b =
      ap (λ (is : List ℕ). sum_by (starting (sized_plant p c)) (up_to b is)) (path-sized a) ∙ (λ j. sum_by (λ (i : ℕ). starting-sized other i j) (up_to b (path p a)))

  is_loop-sized : (l : CardLoop) → is_loop (sized_plant p c) l ≡ is_loop p l
  is_loop-sized l =
      ap (λ (n : ℕ). ltb l.first n && is_downstream (sized_plant p c) l.first l.last) (length-sized p c) ∙ ap (λ (is : List ℕ). ltb l.first (length p.stages) && list_any (λ i. eqb i l.last) is) (path-sized l.first)

  downstream-sized : loops_not_downstream (sized_plant p c) ≡ []
  unfolding sized_plant
  downstream-sized =
      each_from-weaker (not_downstream (sized_plant p c)) (not_downstream p) 0 p.loops (λ k l none. refuse_if-same (not (is_loop (sized_plant p c) l)) (not (is_loop p l)) _ (ap not (is_loop-sized l)) ∙ none) passes.loops_downstream

  -- ---- cards and stock

  path_stock-lowest : (cards : ℕ) → p.policy ≡ Conwip cards → lowest p ≤ c → (i : ℕ) → i < length p.stages → is_first p i ≡ true → path_stock p i ≤ c
  unfolding lowest
  path_stock-lowest cards is enough i below first =
      let all = le-greatest (path_stock p) (first_stages p) in
      let low = subst (λ (policy : Policy). lowest_under policy p ≤ c) is enough in
      let among = Contains-filter-range (is_first p) (length p.stages) i below first in
      let here = All-contains (λ k. path_stock p k ≤ greatest (path_stock p) (first_stages p)) (first_stages p) i all among in
      omega (arith, low, here)

  pub stock-lowest : p.policy ≡ Extended → lowest p ≤ c → (i : ℕ) → i < length p.stages → (stage_at p i).stock ≤ c
  unfolding lowest
  stock-lowest is enough i below =
      let stock = λ (k : ℕ). (stage_at p k).stock in
      let all = le-greatest stock (stage_numbers p) in
      let low = subst (λ (policy : Policy). lowest_under policy p ≤ c) is enough in
      let among = Contains-range (length p.stages) i below in
      let here = All-contains (λ k. stock k ≤ greatest stock (stage_numbers p)) (stage_numbers p) i all among in
      omega (arith, low, here)

  fed-sized : (i : ℕ) (stages : List Stage) → list_any (feeds i) (map (stage_with p.policy c) stages) ≡ list_any (feeds i) stages
  fed-sized i [] = refl
  fed-sized i (s ∷ stages) = ap (λ b. feeds i s || b) (fed-sized i stages)

  is_first-sized : (i : ℕ) → is_first (sized_plant p c) i ≡ is_first p i
  unfolding sized_plant
  is_first-sized i = ap not (fed-sized i p.stages)

  first-enough : (cards i : ℕ) (b : Bool) → p.policy ≡ Conwip cards → lowest p ≤ c → is_first (sized_plant p c) i ≡ b → i < length p.stages → too_few_in_line (sized_plant p c) c i no_stage ≡ []
  first-enough cards i true is enough first below =
      let other : p.policy ≡ Kanban → ⊥ = λ kanban. cc in
      let stock = path_stock-lowest cards is enough i below (sym (is_first-sized i) ∙ first) in
      let line = too_few (codes "cards") c (path_stock (sized_plant p c) i) in
      ap (λ (b : Bool). cond b line []) first ∙ too_few-enough (codes "cards") c (path_stock (sized_plant p c) i) (omega (arith, stock, path_stock-sized other i))
  first-enough cards i false is enough first below =
      ap (λ (b : Bool). cond b (too_few (codes "cards") c (path_stock (sized_plant p c) i)) []) first

  line-enough : (cards : ℕ) → p.policy ≡ Conwip cards → lowest p ≤ c → each (too_few_in_line (sized_plant p c) c) (sized_plant p c).stages ≡ []
  line-enough cards is enough =
      each_from-nil (too_few_in_line (sized_plant p c) c) 0 (sized_plant p c).stages no_stage (λ i j below at. first-enough cards j (is_first (sized_plant p c) j) is enough refl (omega (arith, length-sized p c)))

  stages-enough : p.policy ≡ Extended → lowest p ≤ c → each too_few_in_stage (sized_plant p c).stages ≡ []
  stages-enough is enough =
      each_from-nil too_few_in_stage 0 (sized_plant p c).stages no_stage (λ i j below at.
      let here : i < length p.stages = omega (arith, length-sized p c) in
      let s = stage_at p i in
      let given : s.stock ≤ cards_under p.policy c s.cards = subst (λ (policy : Policy). s.stock ≤ cards_under policy c s.cards) (sym is) (stock-lowest is enough i here) in
      too_few-enough _ (stage_at (sized_plant p c) i).cards (stage_at (sized_plant p c) i).stock (subst (λ (t : Stage). t.stock ≤ t.cards) (sym (stage_at-sized p c i here)) given))

  policy-enough : lowest p ≤ c → too_few_under (sized_plant p c) (sized_plant p c).policy ≡ []
  policy-enough enough =
      subst (λ (policy : Policy). too_few_under (sized_plant p c) policy ≡ []) (sym (policy-sized p c)) (by_policy p.policy refl)
    where
      by_policy : (policy : Policy) → p.policy ≡ policy → too_few_under (sized_plant p c) (policy_with c policy) ≡ []
      by_policy Kanban is = refl
      by_policy (Conwip cards) is = line-enough cards is enough
      by_policy BaseStock is = refl
      by_policy Extended is = stages-enough is enough

  loop-sized : (p.policy ≡ Kanban → ⊥) → (k : ℕ) (l : CardLoop) → too_few_in_loop (sized_plant p c) k l ≡ too_few_in_loop p k l
  loop-sized other k l =
      let place = key_of (InLoop k) (codes "cards") in
      ap (λ (b : Bool). cond b (too_few place l.cards (stock_between (sized_plant p c) l.first l.last)) []) (is_loop-sized l)
      ∙ ap (λ (stock : ℕ). cond (is_loop p l) (too_few place l.cards stock) []) (stock_between-sized other l.first l.last)

  loops-enough : has_single_count p ≡ true → each (too_few_in_loop (sized_plant p c)) p.loops ≡ []
  loops-enough single = by_policy p.policy refl
    where
      enough : each (too_few_in_loop p) p.loops ≡ []
      enough = append-nil_right (too_few_under p p.policy) _ passes.enough_cards

      others : (p.policy ≡ Kanban → ⊥) → each (too_few_in_loop (sized_plant p c)) p.loops ≡ []
      others other =
          each_from-weaker (too_few_in_loop (sized_plant p c)) (too_few_in_loop p) 0 p.loops (λ k l none. loop-sized other k l ∙ none) enough

      by_policy : (policy : Policy) → p.policy ≡ policy → each (too_few_in_loop (sized_plant p c)) p.loops ≡ []
      by_policy Kanban is =
          each_from-nil (too_few_in_loop (sized_plant p c)) 0 p.loops no_loop (λ i j below at. absurd (omega (arith, no_loops p single is)))
      by_policy (Conwip cards) is = others (λ kanban. cc)
      by_policy BaseStock is = others (λ kanban. cc)
      by_policy Extended is = others (λ kanban. cc)

  cards-sized : has_single_count p ≡ true → lowest p ≤ c → too_few_cards (sized_plant p c) ≡ []
  cards-sized single enough =
      both-nil _ _ (policy-enough enough) (subst (λ (ls : List CardLoop). each (too_few_in_loop (sized_plant p c)) ls ≡ []) (sym (loops-sized p c)) (loops-enough single))

  pub sound_sized : has_single_count p ≡ true → lowest p ≤ c → c ≤ MAX_CARDS → IsSound (sized_plant p c)
  unfolding refusals parts_refusals whole_refusals
  sound_sized single enough few =
      let of_parts = both-nil _ _ bad_names-sized (both-nil _ _ names_twice-sized (both-nil _ _ (out_of_range-sized few) (both-nil _ _ feeds-sized finals-sized))) in
      let of_whole = both-nil _ _ times-sized (both-nil _ _ order-sized (both-nil _ _ (cards-sized single enough) (both-nil _ _ downstream-sized sizes-sized))) in
      record { nothing = both-nil _ _ of_parts of_whole }
