-- A plant is sound exactly where the plain facts hold: from the facts, class by class, that nothing is refused, and
-- back.
use Rattle.std.proofs.Common.{codes, ◌≡◌, ◌≢◌, ℕ, zero, suc, ◌+◌, ◌-◌, ◌*◌, ◌<◌, ◌≤◌, Bool, true, false, not, cond, ltb, List, [], ◌∷◌, ◌++◌, length, get_or, take, Option, None, Some, refl, sym, ap, ◌∙◌, subst, arith}
use Rattle.std.specs.Prelude.{◌&&◌, nat_lt, bytes_eq, is_none}
use Rattle.std.specs.Option.{option_map_or}
use Rattle.std.specs.List.{list_any}
use Rattle.std.proofs.lemmas.Bool.{le-ltb, lt-ltb, eq-eqb, false_from_ne_true}
use Rattle.std.proofs.lemmas.List.{get_or-take, length-take}
use Rattle.std.proofs.lemmas.List.Elements.{All-from_get_or}
use Rattle.std.proofs.lemmas.List.Folds.{list_any_none, list_any_at}
use Rattle.std.proofs.lemmas.Slice.Eq.{bytes_eq-Decides}
use Rattle.line_base.specs.declared.times.Times.{Times}
use Rattle.line_base.specs.declared.times.Times.TheVariants.{Fixed, Each}
use Rattle.line_base.specs.Limits.{most_stages, most_stations, most_demands, most_dates, most_loops, most_observed, last_observed, most_cards, longest_time, last_demand}
use Rattle.plant_model.specs.declared.error.PlantError.{PlantError}
use Rattle.plant_model.specs.declared.plant.Policy.{Policy}
use Rattle.plant_model.specs.declared.plant.Policy.TheVariants.{Kanban, Conwip, BaseStock, Extended}
use Rattle.plant_model.specs.Stages.{Machine, Stage}
use Rattle.plant_model.specs.declared.plant.Plant.{Plant}
use Rattle.plant_model.specs.declared.place.FileTable.TheVariants.{InMachine}
use Rattle.plant_model.specs.Line.{no_stage, no_machine, no_loop, stage_at, machine_at, loop_at, next, line_cards, station_count, is_first, is_downstream, path_stock, stock_between}
use Rattle.plant_model.specs.Refusals.{refuse_if, each_from, each, above, empty, larger, bad_name, bad_names, machine_name_twice, stage_name_twice, names_twice, cards_out_of_range, top_out_of_range, times_out_of_range, machine_out_of_range, stage_out_of_range, loop_out_of_range, out_of_range, feeds_not_later, all_feeds_not_later, second_final, second_finals, times_count, machine_times_count, stage_times_count, times_counts, falling_date, demand_order, too_few, too_few_in_line, too_few_in_stage, too_few_under, is_loop, too_few_in_loop, too_few_cards, not_downstream, loops_not_downstream, too_large, parts_refusals, whole_refusals}
use Rattle.plant_model.specs.Sound.{IsSound, HasSoundNames, IsSoundPlant, AreSoundTimes}
use Rattle.plant_model.proofs.NoRefusals.{append-nil_left, append-nil_right, refuse_if-none, each-none}
use Rattle.plant_model.proofs.Soundness.{IsSound-Parts, IsSound-from}
use Rattle.plant_model.proofs.SoundPlants.{HasSoundSizes-sound, IsSoundStage-sound, IsSoundMachine-sound, IsSoundLoop-sound, path_stock-has_cards}

-- lists that are empty
nil-append : {X : Type 0} (xs ys : List X) → xs ≡ [] → ys ≡ [] → xs ++ ys ≡ []
nil-append [] ys none none_2 = none_2
nil-append (x ∷ xs) ys none none_2 = cc

refuse_if-nil : (test : Bool) (e : PlantError) → test ≡ false → refuse_if test e ≡ []
refuse_if-nil test e passes = ap (λ b. cond b (e ∷ []) []) passes

above-nil : (place : List ℕ) (limit n : ℕ) → n ≤ limit → above place limit n ≡ []
above-nil place limit n le = refuse_if-nil (ltb limit n) _ (le-ltb limit n le)

larger-nil : (what : List ℕ) (limit n : ℕ) → n ≤ limit → larger what limit n ≡ []
larger-nil what limit n le = refuse_if-nil (ltb limit n) _ (le-ltb limit n le)

empty-nil : {X : Type 0} (place : List ℕ) (xs : List X) → 1 ≤ length xs → empty place xs ≡ []
empty-nil place [] some = absurd (omega arith)
empty-nil place (x ∷ xs) some = refl

each_from-nil : {X : Type 0} (f : ℕ → X → List PlantError) (k : ℕ) (xs : List X) (d : X) → ((i : ℕ) → i < length xs → f (k + i) (get_or xs i d) ≡ []) → each_from f k xs ≡ []
each_from-nil f k [] d h = refl
each_from-nil f k (x ∷ xs) d h =
    let first : k + 0 ≡ k = omega arith in
    let here = subst (λ n. f n x ≡ []) first (h 0 (omega arith)) in
    nil-append (f k x) (each_from f (k + 1) xs) here
    (each_from-nil f (k + 1) xs d (λ i below. let at : k + suc i ≡ k + 1 + i = omega arith in subst (λ n. f n (get_or xs i d) ≡ []) at (h (suc i) (omega arith))))

each-nil : {X : Type 0} (f : ℕ → X → List PlantError) (xs : List X) (d : X) → ((i : ℕ) → i < length xs → f i (get_or xs i d) ≡ []) → each f xs ≡ []
each-nil f xs d h =
    each_from-nil f 0 xs d (λ i below. let at : i ≡ 0 + i = omega arith in subst (λ n. f n (get_or xs i d) ≡ []) at (h i below))

-- no element before element i has its name
none_before : {X : Type 0} (name : X → List ℕ) (xs : List X) (i : ℕ) (d : X) → i < length xs → ((j : ℕ) → j < i → name (get_or xs j d) ≢ name (get_or xs i d)) → list_any (λ x. bytes_eq (name x) (name (get_or xs i d))) (take i xs) ≡ false
none_before {X} name xs i d below differ =
    let test = λ (x : X). bytes_eq (name x) (name (get_or xs i d)) in
    let long = length-take i xs in
    list_any_none test (take i xs) (All-from_get_or (λ x. test x ≡ false) (take i xs) d (λ j inside.
    let before : j < i = omega arith in
    let read = get_or-take i xs j d before in
    subst (λ (x : X). test x ≡ false) (sym read) (false_from_ne_true _ (λ same. differ j before ((bytes_eq-Decides (name (get_or xs j d)) (name (get_or xs i d))).0 same)))))

-- an element before element i with its name is found
some_before : {X : Type 0} (name : X → List ℕ) (xs : List X) (i j : ℕ) (d : X) → i < length xs → j < i → name (get_or xs j d) ≡ name (get_or xs i d) → list_any (λ x. bytes_eq (name x) (name (get_or xs i d))) (take i xs) ≡ true
some_before {X} name xs i j d below before same =
    let test = λ (x : X). bytes_eq (name x) (name (get_or xs i d)) in
    let long = length-take i xs in
    let read = get_or-take i xs j d before in
    let found = (bytes_eq-Decides (name (get_or xs j d)) (name (get_or xs i d))).1 same in
    list_any_at test (take i xs) j d (omega arith) (subst (λ (x : X). test x ≡ true) (sym read) found)

names-nil : (p : Plant) → HasSoundNames p → bad_names p ++ names_twice p ≡ []
names-nil p names =
    nil-append (bad_names p) (names_twice p)
    (each-nil bad_name p.stages no_stage (λ i below. refuse_if-nil _ _ (names.none_reserved i below)))
    (each-nil (stage_name_twice p.stages) p.stages no_stage (λ i below.
    nil-append _ (each (machine_name_twice i (stage_at p i).machines) (stage_at p i).machines)
    (refuse_if-nil _ _ (none_before (λ (s : Stage). s.name) p.stages i no_stage below (λ j before. names.stages_differ j i before below)))
    (each-nil (machine_name_twice i (stage_at p i).machines) (stage_at p i).machines no_machine (λ k inside.
    refuse_if-nil _ _ (none_before (λ (m : Machine). m.name) (stage_at p i).machines k no_machine inside (λ j before. names.machines_differ i j k below before inside))))))

cards-nil : (policy : Policy) → line_cards policy ≤ most_cards → cards_out_of_range policy ≡ []
cards-nil Kanban le = refl
cards-nil (Conwip cards) le = above-nil (codes "cards") most_cards cards le
cards-nil BaseStock le = refl
cards-nil Extended le = refl

times-nil : (jobs i j : ℕ) (times : Times) → AreSoundTimes jobs times → times_out_of_range (InMachine i j) times ≡ []
times-nil jobs i j (Fixed time) sound = above-nil _ longest_time time sound
times-nil jobs i j (Each times) sound = each-nil _ times 0 (λ k below. above-nil _ longest_time (get_or times k 0) (sound.1 k below))

range-nil : (p : Plant) → IsSoundPlant p → out_of_range p ≡ []
range-nil p h =
    nil-append (top_out_of_range p) (each stage_out_of_range p.stages ++ each loop_out_of_range p.loops) top
    (nil-append (each stage_out_of_range p.stages) (each loop_out_of_range p.loops)
    (each-nil stage_out_of_range p.stages no_stage of_stage)
    (each-nil loop_out_of_range p.loops no_loop of_loop))
  where
    top : top_out_of_range p ≡ []
    top =
        nil-append _ _ (above-nil _ longest_time p.card_time h.sizes.short_card_time)
        (nil-append _ _ (cards-nil p.policy h.sizes.few_line_cards)
        (nil-append _ _ (empty-nil _ p.demands h.sizes.some_demand)
        (nil-append _ _ (each-nil _ p.demands 0 (λ k below. above-nil _ last_demand (get_or p.demands k 0) (h.sizes.early_demands k below)))
        (nil-append _ _ (each-nil _ p.observe 0 (λ k below. above-nil _ last_observed (get_or p.observe k 0) (h.sizes.early_observed k below)))
        (empty-nil _ p.stages h.sizes.some_stage)))))

    of_machine : (i j : ℕ) → i < length p.stages → j < length (stage_at p i).machines → machine_out_of_range i j (machine_at p i j) ≡ []
    of_machine i j below inside =
        let machine = h.machines i j below inside in
        nil-append _ _ (above-nil _ most_cards (machine_at p i j).servers machine.few_servers)
        (times-nil (length p.demands) i j (machine_at p i j).times machine.short_times)

    of_stage : (i : ℕ) → i < length p.stages → stage_out_of_range i (stage_at p i) ≡ []
    of_stage i below =
        let s = stage_at p i in
        let stage = h.stages i below in
        nil-append _ _ (above-nil _ longest_time s.card_time stage.short_card_time)
        (nil-append _ _ (above-nil _ most_cards s.cards stage.few_cards)
        (nil-append _ _ (empty-nil _ s.machines stage.some_machine)
        (nil-append _ _ (above-nil _ most_cards s.stock stage.little_stock)
        (nil-append _ _ (above-nil _ longest_time s.travel stage.short_travel)
        (each-nil (machine_out_of_range i) s.machines no_machine (λ j inside. of_machine i j below inside))))))

    of_loop : (k : ℕ) → k < length p.loops → loop_out_of_range k (loop_at p k) ≡ []
    of_loop k below =
        let loop = h.loops k below in
        nil-append _ _ (above-nil _ longest_time (loop_at p k).card_time loop.short_card_time)
        (above-nil _ most_cards (loop_at p k).cards loop.few_cards)

fed-nil : (count i : ℕ) (o : Option ℕ) (e : PlantError) → ((j : ℕ) → o ≡ Some j → (i < j) × (j < count)) → option_map_or (λ j. refuse_if (not (nat_lt i j && nat_lt j count)) e) o [] ≡ []
fed-nil count i None e later = refl
fed-nil count i (Some j) e later =
    let h = later j refl in
    refuse_if-nil _ e (ap not (ap (λ b. b && ltb j count) (lt-ltb i j h.0) ∙ lt-ltb j count h.1))

final-nil : (count i : ℕ) (o : Option ℕ) (e : PlantError) → (o ≡ None → i + 1 ≡ count) → refuse_if (is_none o && nat_lt (i + 1) count) e ≡ []
final-nil count i None e last = let is = last refl in refuse_if-nil _ e (le-ltb (i + 1) count (omega arith))
final-nil count i (Some j) e last = refl

feeds-nil : (p : Plant) → IsSoundPlant p → all_feeds_not_later p ++ second_finals p ≡ []
feeds-nil p h =
    nil-append (all_feeds_not_later p) (second_finals p)
    (each-nil (feeds_not_later (length p.stages)) p.stages no_stage (λ i below. fed-nil (length p.stages) i (next p i) _ (h.stages i below).feeds_later))
    (each-nil (second_final (length p.stages)) p.stages no_stage (λ i below. final-nil (length p.stages) i (next p i) _ (h.stages i below).last_is_final))

count-nil : (jobs i j : ℕ) (times : Times) → AreSoundTimes jobs times → times_count jobs (InMachine i j) times ≡ []
count-nil jobs i j (Fixed time) sound = refl
count-nil jobs i j (Each times) sound = refuse_if-nil _ _ (ap not (eq-eqb (length times) jobs sound.0))

counts-nil : (p : Plant) → IsSoundPlant p → times_counts p ≡ []
counts-nil p h =
    each-nil (stage_times_count (length p.demands)) p.stages no_stage (λ i below.
    each-nil (machine_times_count (length p.demands) i) (stage_at p i).machines no_machine (λ j inside.
    count-nil (length p.demands) i j (machine_at p i j).times (h.machines i j below inside).short_times))

order-nil : (p : Plant) → IsSoundPlant p → demand_order p ≡ []
order-nil p h = each-nil (falling_date p.demands) p.demands 0 at
  where
    at : (k : ℕ) → k < length p.demands → falling_date p.demands k (get_or p.demands k 0) ≡ []
    at zero below = refuse_if-nil _ _ (le-ltb _ _ (omega arith))
    at (suc k) below =
        let before : suc k - 1 ≡ k = omega arith in
        refuse_if-nil _ _ (le-ltb _ _ (subst (λ n. get_or p.demands n 0 ≤ get_or p.demands (suc k) 0) (sym before) (h.sizes.ordered_demands k below)))

too_few-nil : (place : List ℕ) (cards stock : ℕ) → stock ≤ cards → too_few place cards stock ≡ []
too_few-nil place cards stock le = refuse_if-nil _ _ (le-ltb cards stock le)

-- what is refused of a stage or a loop that passes a test
if-nil : (test : Bool) (refused : List PlantError) → (test ≡ true → refused ≡ []) → cond test refused [] ≡ []
if-nil true refused none = none refl
if-nil false refused none = refl

few-nil : (p : Plant) → IsSoundPlant p → (policy : Policy) → p.policy ≡ policy → too_few_under p policy ≡ []
few-nil p h Kanban is = refl
few-nil p h (Conwip cards) is =
    each-nil (too_few_in_line p cards) p.stages no_stage (λ i below.
    if-nil (is_first p i) _ (λ first. too_few-nil _ cards (path_stock p i) (h.line_has_cards i cards is below first)))
few-nil p h BaseStock is = refl
few-nil p h Extended is =
    each-nil too_few_in_stage p.stages no_stage (λ i below. too_few-nil _ (stage_at p i).cards (stage_at p i).stock ((h.stages i below).stock_has_cards is))

loops-nil : (p : Plant) → IsSoundPlant p → each (too_few_in_loop p) p.loops ++ loops_not_downstream p ≡ []
loops-nil p h =
    nil-append (each (too_few_in_loop p) p.loops) (loops_not_downstream p)
    (each-nil (too_few_in_loop p) p.loops no_loop (λ k below.
    if-nil (is_loop p (loop_at p k)) _ (λ _. too_few-nil _ (loop_at p k).cards (stock_between p (loop_at p k).first (loop_at p k).last) (h.loops k below).stock_has_cards)))
    (each-nil (not_downstream p) p.loops no_loop (λ k below.
    let loop = h.loops k below in
    refuse_if-nil _ _ (ap not (ap (λ b. b && is_downstream p (loop_at p k).first (loop_at p k).last) (lt-ltb (loop_at p k).first (length p.stages) loop.first_exists) ∙ loop.goes_downstream))))

sizes-nil : (p : Plant) → IsSoundPlant p → too_large p ≡ []
sizes-nil p h =
    nil-append _ _ (larger-nil _ most_stages (length p.stages) h.sizes.few_stages)
    (nil-append _ _ (larger-nil _ most_stations (station_count p) h.sizes.few_stations)
    (nil-append _ _ (larger-nil _ most_demands (length p.demands) h.sizes.few_demands)
    (nil-append _ _ (larger-nil _ most_dates (station_count p * length p.demands) h.sizes.small_table)
    (nil-append _ _ (larger-nil _ most_loops (length p.loops) h.sizes.few_loops)
    (larger-nil _ most_observed (length p.observe) h.sizes.few_observed)))))

-- from the plain facts nothing is refused
pub IsSound-plain : (p : Plant) → IsSoundPlant p → IsSound p
unfolding parts_refusals whole_refusals
IsSound-plain p h =
    let names = names-nil p h.names in
    let feeds = feeds-nil p h in
    let loops = loops-nil p h in
    IsSound-from p
    (nil-append (bad_names p) _ (append-nil_left (bad_names p) (names_twice p) names)
    (nil-append (names_twice p) _ (append-nil_right (bad_names p) (names_twice p) names)
    (nil-append (out_of_range p) _ (range-nil p h) feeds)))
    (nil-append (times_counts p) _ (counts-nil p h)
    (nil-append (demand_order p) _ (order-nil p h)
    (nil-append (too_few_cards p) _
    (nil-append (too_few_under p p.policy) _ (few-nil p h p.policy refl) (append-nil_left _ (loops_not_downstream p) loops))
    (nil-append (loops_not_downstream p) _ (append-nil_right (each (too_few_in_loop p) p.loops) (loops_not_downstream p) loops)
    (sizes-nil p h)))))

-- the names of a sound plant
names-sound : (p : Plant) → IsSound p → HasSoundNames p
names-sound p sound =
    let parts = IsSound-Parts sound in
    record {
      none_reserved = λ i below. refuse_if-none _ _ (each-none bad_name p.stages i no_stage below parts.named);
      stages_differ = λ i j before below same.
          let twice = each-none (stage_name_twice p.stages) p.stages j no_stage below parts.once in
          let none = refuse_if-none _ _ (append-nil_left _ (each (machine_name_twice j (stage_at p j).machines) (stage_at p j).machines) twice) in
          let found = some_before (λ (s : Stage). s.name) p.stages j i no_stage below before same in
          cc;
      machines_differ = λ i j k below before inside same.
          let ms = (stage_at p i).machines in
          let twice = each-none (stage_name_twice p.stages) p.stages i no_stage below parts.once in
          let all = append-nil_right _ (each (machine_name_twice i ms) ms) twice in
          let none = refuse_if-none _ _ (each-none (machine_name_twice i ms) ms k no_machine inside all) in
          let found = some_before (λ (m : Machine). m.name) ms k j no_machine inside before same in
          cc;
    }

-- of a sound plant the plain facts hold
pub IsSoundPlant-sound : (p : Plant) → IsSound p → IsSoundPlant p
IsSoundPlant-sound p sound =
    record {
      names = names-sound p sound;
      sizes = HasSoundSizes-sound p sound;
      stages = λ i below. IsSoundStage-sound p i sound below;
      machines = λ i j below inside. IsSoundMachine-sound p i j sound below inside;
      loops = λ k below. IsSoundLoop-sound p k no_loop sound below;
      line_has_cards = λ i cards is below first. path_stock-has_cards p i cards sound is below first;
    }
