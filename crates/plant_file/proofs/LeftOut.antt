-- The refusals 12 to 15 of a plant don't depend on its job times, so they are found before a column is copied.
use Rattle.std.proofs.Common.{◌≡◌, ℕ, zero, suc, ◌+◌, ◌*◌, Bool, true, false, List, [], ◌∷◌, length, map, get_or, Option, None, Some, Ok, refl, sym, ap, ◌∙◌}
use Rattle.std.specs.Prelude.{not, ◌&&◌, nat_lt, sum_by, codes}
use Rattle.std.specs.Option.{option_map_or}
use Rattle.std.proofs.lemmas.Bool.{le-leb}
use Rattle.std.proofs.lemmas.List.{length-map}
use Rattle.std.proofs.lemmas.List.Sums.{sum_by-cons}
use Rattle.line_base.specs.Limits.{most_stages, most_stations, most_demands, most_dates, most_loops, most_observed}
use Rattle.demand_feed.specs.JobTimes.{JobTimes}
use Rattle.plant_model.specs.declared.error.PlantError.{PlantError}
use Rattle.plant_model.specs.declared.place.FileTable.{FileTable}
use Rattle.plant_model.specs.declared.place.FileTable.TheVariants.{InMachine}
use Rattle.plant_model.specs.declared.plant.CardLoop.{CardLoop}
use Rattle.plant_model.specs.declared.plant.Plant.{Plant}
use Rattle.plant_model.specs.declared.plant.Policy.{Policy}
use Rattle.plant_model.specs.declared.plant.Policy.TheVariants.{Kanban, Conwip, BaseStock, Extended}
use Rattle.plant_model.specs.Line.{no_stage, stations_of, station_count, next, stock_under, starting, feeds, is_first, path_within, path, up_to, is_downstream, path_stock, stock_between}
use Rattle.plant_model.specs.Refusals.{each_from, each, times_count, machine_times_count, stage_times_count, times_counts, demand_order, too_few_in_line, too_few_in_stage, too_few_under, too_few_in_loop, too_few_cards, is_loop, not_downstream, loops_not_downstream, larger, too_large, whole_refusals, first}
use Rattle.plant_model.proofs.NoRefusals.{append-nil_left, append-nil_right, AreNil-append, larger-none}
use Rattle.plant_model.proofs.Passes.{first-append}
use Rattle.plant_model.specs.Stages.{Stage}
use Rattle.plant_file.specs.declared.draft.DraftTimes.{DraftTimes}
use Rattle.plant_file.specs.declared.draft.DraftTimes.TheVariants.{Column, Fixed, Each}
use Rattle.plant_file.specs.declared.draft.DraftPlant.{DraftPlant}
use Rattle.plant_file.specs.Draft.{DraftStage}
use Rattle.plant_file.specs.Finish.{times_with, machine_with, stage_with, loop_with, plant_with, plant_or_first, finished_plant}
use Rattle.plant_file.specs.Counts.{machine_counts, stage_counts, stays_within, table_within}
use Rattle.plant_file.proofs.PlantParts.{each_from-map, list_any-map}

-- 1. Of lists.

-- the same is refused of what elements become in two ways
each_from-maps : {X Y : Type 0} (f h : ℕ → Y → List PlantError) (a b : X → Y) (k : ℕ) (xs : List X) → ((i : ℕ) (x : X) → f i (a x) ≡ h i (b x)) → each_from f k (map a xs) ≡ each_from h k (map b xs)
each_from-maps f h a b k xs same =
    each_from-map f (λ i x. h i (b x)) a k xs same ∙ sym (each_from-map h (λ i x. h i (b x)) b k xs (λ i x. refl))

-- where nothing is refused of what elements become in one way, nothing is refused of what they become in another
each_from-nil : {X Y : Type 0} (f : ℕ → Y → List PlantError) (a b : X → Y) (k : ℕ) (xs : List X) → ((i : ℕ) (x : X) → f i (a x) ≡ [] → f i (b x) ≡ []) → each_from f k (map a xs) ≡ [] → each_from f k (map b xs) ≡ []
each_from-nil f a b k [] weaker none = refl
each_from-nil f a b k (x ∷ xs) weaker none =
    rw (weaker k x (append-nil_left (f k (a x)) _ none))
    (each_from-nil f a b (k + 1) xs weaker (append-nil_right (f k (a x)) _ none))

option_map_or-same : {X Y : Type 0} (f g : X → Y) (o : Option X) (d : Y) → ((x : X) → f x ≡ g x) → option_map_or f o d ≡ option_map_or g o d
option_map_or-same f g None d same = refl
option_map_or-same f g (Some x) d same = same x

sum_by-same : {X : Type 0} (f g : X → ℕ) (xs : List X) → ((x : X) → f x ≡ g x) → sum_by f xs ≡ sum_by g xs
sum_by-same f g [] same = refl
sum_by-same f g (x ∷ xs) same =
    rw (sum_by-cons f x xs, sum_by-cons g x xs, same x) (ap (λ rest. g x + rest) (sum_by-same f g xs same))

-- 2. Of the stages of a plant, whatever stands in its columns.

-- what stands where a number names no stage of a draft
abbrev no_draft_stage : DraftStage
no_draft_stage = record { name = []; feeds = None; cards = 0; stock = 0; travel = 0; card_time = 0; machines = [] }

stage-made : (t : Option JobTimes) (stages : List DraftStage) (i : ℕ) → get_or (map (stage_with t) stages) i no_stage ≡ stage_with t (get_or stages i no_draft_stage)
stage-made t [] i = refl
stage-made t (s ∷ ss) zero = refl
stage-made t (s ∷ ss) (suc i) = stage-made t ss i

count-made : (t : Option JobTimes) (stages : List DraftStage) → length (map (stage_with t) stages) ≡ length stages
count-made t stages = length-map stages (stage_with t)

stations-made : (t : Option JobTimes) (stages : List DraftStage) → stations_of (map (stage_with t) stages) ≡ stations_of stages
stations-made t [] = refl
stations-made t (s ∷ ss) =
    rw (
      sum_by-cons (λ (x : DraftStage). 1 + length x.machines) s ss,
      ← stations-made t ss,
      ← length-map s.machines (machine_with t),
    )
    (sum_by-cons _ (stage_with t s) (map (stage_with t) ss))

next-same : (d : DraftPlant) (dates : Option (List ℕ)) (t u : Option JobTimes) (i : ℕ) → next (plant_with d dates t) i ≡ next (plant_with d dates u) i
next-same d dates t u i =
    ap (λ (s : Stage). s.feeds) (stage-made t d.stages i) ∙ sym (ap (λ (s : Stage). s.feeds) (stage-made u d.stages i))

stock-same : (policy : Policy) (t u : Option JobTimes) (s : DraftStage) → stock_under policy (stage_with t s) ≡ stock_under policy (stage_with u s)
stock-same Kanban t u s = refl
stock-same (Conwip cards) t u s = refl
stock-same BaseStock t u s = refl
stock-same Extended t u s = refl

starting-same : (d : DraftPlant) (dates : Option (List ℕ)) (t u : Option JobTimes) (i : ℕ) → starting (plant_with d dates t) i ≡ starting (plant_with d dates u) i
starting-same d dates t u i =
    rw (stage-made t d.stages i, stage-made u d.stages i) (stock-same d.policy t u (get_or d.stages i no_draft_stage))

is_first-same : (d : DraftPlant) (dates : Option (List ℕ)) (t u : Option JobTimes) (i : ℕ) → is_first (plant_with d dates t) i ≡ is_first (plant_with d dates u) i
is_first-same d dates t u i =
    ap not (list_any-map (feeds i) (stage_with t) d.stages ∙ sym (list_any-map (feeds i) (stage_with u) d.stages))

path_within-same : (d : DraftPlant) (dates : Option (List ℕ)) (t u : Option JobTimes) (n i : ℕ) → path_within n (plant_with d dates t) i ≡ path_within n (plant_with d dates u) i
path_within-same d dates t u zero i = refl
path_within-same d dates t u (suc n) i =
    ap (λ rest. i ∷ rest)
    (ap (λ fed. option_map_or (path_within n (plant_with d dates t)) fed []) (next-same d dates t u i)
    ∙ option_map_or-same (path_within n (plant_with d dates t)) (path_within n (plant_with d dates u)) (next (plant_with d dates u) i) []
    (λ j. path_within-same d dates t u n j))

path-same : (d : DraftPlant) (dates : Option (List ℕ)) (t u : Option JobTimes) (i : ℕ) → path (plant_with d dates t) i ≡ path (plant_with d dates u) i
path-same d dates t u i =
    ap (λ n. path_within n (plant_with d dates t) i) (count-made t d.stages ∙ sym (count-made u d.stages))
    ∙ path_within-same d dates t u (length (map (stage_with u) d.stages)) i

is_downstream-same : (d : DraftPlant) (dates : Option (List ℕ)) (t u : Option JobTimes) (a b : ℕ) → is_downstream (plant_with d dates t) a b ≡ is_downstream (plant_with d dates u) a b
is_downstream-same d dates t u a b = rw (path-same d dates t u a) refl

path_stock-same : (d : DraftPlant) (dates : Option (List ℕ)) (t u : Option JobTimes) (a : ℕ) → path_stock (plant_with d dates t) a ≡ path_stock (plant_with d dates u) a
path_stock-same d dates t u a =
    ap (sum_by (starting (plant_with d dates t))) (path-same d dates t u a)
    ∙ sum_by-same _ _ (path (plant_with d dates u) a) (starting-same d dates t u)

stock_between-same : (d : DraftPlant) (dates : Option (List ℕ)) (t u : Option JobTimes) (a b : ℕ) → stock_between (plant_with d dates t) a b ≡ stock_between (plant_with d dates u) a b
stock_between-same d dates t u a b =
    ap (λ is. sum_by (starting (plant_with d dates t)) (up_to b is)) (path-same d dates t u a)
    ∙ sum_by-same _ _ (up_to b (path (plant_with d dates u) a)) (starting-same d dates t u)

is_loop-same : (d : DraftPlant) (dates : Option (List ℕ)) (t u : Option JobTimes) (l : CardLoop) → is_loop (plant_with d dates t) l ≡ is_loop (plant_with d dates u) l
is_loop-same d dates t u l =
    ap (λ n. nat_lt l.first n && is_downstream (plant_with d dates t) l.first l.last) (count-made t d.stages ∙ sym (count-made u d.stages))
    ∙ ap (λ is. nat_lt l.first (length (map (stage_with u) d.stages)) && is) (is_downstream-same d dates t u l.first l.last)

-- 3. The classes 12 to 15.

too_few_in_line-same : (d : DraftPlant) (dates : Option (List ℕ)) (t u : Option JobTimes) (cards i : ℕ) (s : DraftStage) → too_few_in_line (plant_with d dates t) cards i (stage_with t s) ≡ too_few_in_line (plant_with d dates u) cards i (stage_with u s)
too_few_in_line-same d dates t u cards i s = rw (is_first-same d dates t u i, path_stock-same d dates t u i) refl

too_few_under-same : (d : DraftPlant) (dates : Option (List ℕ)) (t u : Option JobTimes) (policy : Policy) → too_few_under (plant_with d dates t) policy ≡ too_few_under (plant_with d dates u) policy
too_few_under-same d dates t u Kanban = refl
too_few_under-same d dates t u (Conwip cards) =
    each_from-maps _ _ (stage_with t) (stage_with u) 0 d.stages (too_few_in_line-same d dates t u cards)
too_few_under-same d dates t u BaseStock = refl
too_few_under-same d dates t u Extended =
    each_from-maps too_few_in_stage too_few_in_stage (stage_with t) (stage_with u) 0 d.stages (λ i s. refl)

too_few_in_loop-same : (d : DraftPlant) (dates : Option (List ℕ)) (t u : Option JobTimes) (k : ℕ) (l : CardLoop) → too_few_in_loop (plant_with d dates t) k l ≡ too_few_in_loop (plant_with d dates u) k l
too_few_in_loop-same d dates t u k l =
    rw (is_loop-same d dates t u l, stock_between-same d dates t u l.first l.last) refl

not_downstream-same : (d : DraftPlant) (dates : Option (List ℕ)) (t u : Option JobTimes) (k : ℕ) (l : CardLoop) → not_downstream (plant_with d dates t) k l ≡ not_downstream (plant_with d dates u) k l
not_downstream-same d dates t u k l = rw (is_loop-same d dates t u l) refl

too_few_cards-same : (d : DraftPlant) (dates : Option (List ℕ)) (t u : Option JobTimes) → too_few_cards (plant_with d dates t) ≡ too_few_cards (plant_with d dates u)
too_few_cards-same d dates t u =
    rw (
      too_few_under-same d dates t u d.policy,
      each_from-maps (too_few_in_loop (plant_with d dates t)) (too_few_in_loop (plant_with d dates u)) (loop_with (length d.stages)) (loop_with (length d.stages)) 0 d.loops (λ k l. too_few_in_loop-same d dates t u k (loop_with (length d.stages) l)),
    )
    refl

loops_not_downstream-same : (d : DraftPlant) (dates : Option (List ℕ)) (t u : Option JobTimes) → loops_not_downstream (plant_with d dates t) ≡ loops_not_downstream (plant_with d dates u)
loops_not_downstream-same d dates t u =
    each_from-maps _ _ (loop_with (length d.stages)) (loop_with (length d.stages)) 0 d.loops
    (λ k l. not_downstream-same d dates t u k (loop_with (length d.stages) l))

too_large-same : (d : DraftPlant) (dates : Option (List ℕ)) (t u : Option JobTimes) → too_large (plant_with d dates t) ≡ too_large (plant_with d dates u)
too_large-same d dates t u =
    rw (count-made t d.stages, count-made u d.stages, stations-made t d.stages, stations-made u d.stages) refl

-- 4. Class 11, and the table that is used.

-- what is refused of a draft's stages is what is refused of the plant's
pub times_counts-draft : (d : DraftPlant) (dates : Option (List ℕ)) (t : Option JobTimes) (jobs : ℕ) → jobs ≡ length (plant_with d dates t).demands → times_counts (plant_with d dates t) ≡ each (stage_counts jobs t) d.stages
times_counts-draft d dates t jobs are =
    each_from-map (stage_times_count (length (plant_with d dates t).demands)) (stage_counts jobs t) (stage_with t) 0 d.stages
    (λ i s. rw are (each_from-map (machine_times_count (length (plant_with d dates t).demands) i) (machine_counts (length (plant_with d dates t).demands) t i) (machine_with t) 0 s.machines (λ j m. refl)))

-- 11, where the columns are left out
times_count-left_out : (jobs : ℕ) (machine : FileTable) (t : Option JobTimes) (times : DraftTimes) → times_count jobs machine (times_with t times) ≡ [] → times_count jobs machine (times_with None times) ≡ []
times_count-left_out jobs machine t (Column column) none = refl
times_count-left_out jobs machine t (Fixed time) none = refl
times_count-left_out jobs machine t (Each times) none = none

times_counts-left_out : (d : DraftPlant) (dates : Option (List ℕ)) (t : Option JobTimes) → times_counts (plant_with d dates t) ≡ [] → times_counts (plant_with d dates None) ≡ []
times_counts-left_out d dates t none =
    each_from-nil (stage_times_count _) (stage_with t) (stage_with None) 0 d.stages
    (λ i s. each_from-nil (machine_times_count _ i) (machine_with t) (machine_with None) 0 s.machines
    (λ j m. times_count-left_out _ (InMachine i j) t m.times))
    none

whole_refusals-left_out : (d : DraftPlant) (dates : Option (List ℕ)) (t : Option JobTimes) → times_counts (plant_with d dates t) ≡ [] → whole_refusals (plant_with d dates None) ≡ whole_refusals (plant_with d dates t)
unfolding whole_refusals
whole_refusals-left_out d dates t none =
    rw (
      none,
      times_counts-left_out d dates t none,
      too_few_cards-same d dates None t,
      loops_not_downstream-same d dates None t,
      too_large-same d dates None t,
    )
    refl

-- the table that is used gives the same refusals, where no machine has another number of times than there are demands
whole_refusals-within : (d : DraftPlant) (dates : Option (List ℕ)) (t : Option JobTimes) (within : Bool) → times_counts (plant_with d dates t) ≡ [] → whole_refusals (plant_with d dates (table_within within t)) ≡ whole_refusals (plant_with d dates t)
whole_refusals-within d dates t true none = refl
whole_refusals-within d dates t false none = whole_refusals-left_out d dates t none

-- a plant of which nothing is refused stays within its limits
stays_within-sound : (d : DraftPlant) (dates : Option (List ℕ)) (t : Option JobTimes) → whole_refusals (plant_with d dates t) ≡ [] → stays_within (length (plant_with d dates t).demands) d.stages ≡ true
unfolding whole_refusals
stays_within-sound d dates t none =
    let p = plant_with d dates t in
    let larges = append-nil_right (loops_not_downstream p) _ (append-nil_right (too_few_cards p) _ (append-nil_right (demand_order p) _ (append-nil_right (times_counts p) _ none))) in
    let nils = AreNil-append (larger (codes "stages") most_stages (length p.stages)) (larger (codes "stations") most_stations (station_count p)) (larger (codes "demands") most_demands (length p.demands)) (larger (codes "table") most_dates (station_count p * length p.demands)) (larger (codes "loops") most_loops (length p.loops)) (larger (codes "observe") most_observed (length p.observe)) larges in
    let stations = larger-none _ most_stations (station_count p) nils.second in
    let jobs = larger-none _ most_demands (length p.demands) nils.third in
    let dates = larger-none _ most_dates (station_count p * length p.demands) nils.fourth in
    rw (
      ← stations-made t d.stages,
      le-leb (station_count p) most_stations stations,
      le-leb (length p.demands) most_demands jobs,
      le-leb (station_count p * length p.demands) most_dates dates,
    )
    refl

-- 5. What is known of the counts of a draft.

-- the first refusal of its counts is the first of the plant
pub first-counted : (d : DraftPlant) (dates : Option (List ℕ)) (t : Option JobTimes) (jobs : ℕ) (e : PlantError) → jobs ≡ length (plant_with d dates t).demands → first (each (stage_counts jobs t) d.stages) ≡ Some e → first (whole_refusals (plant_with d dates t)) ≡ Some e
unfolding whole_refusals
first-counted d dates t jobs e are found =
    first-append (times_counts (plant_with d dates t)) _ e (ap first (times_counts-draft d dates t jobs are) ∙ found)

-- where none is refused, the table that is used gives the refusals of the plant
pub whole_refusals-counted : (d : DraftPlant) (dates : Option (List ℕ)) (t : Option JobTimes) (jobs : ℕ) → jobs ≡ length (plant_with d dates t).demands → each (stage_counts jobs t) d.stages ≡ [] → whole_refusals (plant_with d dates (table_within (stays_within jobs d.stages) t)) ≡ whole_refusals (plant_with d dates t)
whole_refusals-counted d dates t jobs are none =
    whole_refusals-within d dates t (stays_within jobs d.stages) (times_counts-draft d dates t jobs are ∙ none)

-- and where nothing else is refused of that, it gives the plant
pub finished-counted : (d : DraftPlant) (dates : Option (List ℕ)) (t : Option JobTimes) (jobs : ℕ) → jobs ≡ length (plant_with d dates t).demands → each (stage_counts jobs t) d.stages ≡ [] → whole_refusals (plant_with d dates (table_within (stays_within jobs d.stages) t)) ≡ [] → finished_plant d dates t ≡ Ok (plant_with d dates (table_within (stays_within jobs d.stages) t))
finished-counted d dates t jobs are none nothing =
    let whole : whole_refusals (plant_with d dates t) ≡ [] = sym (whole_refusals-counted d dates t jobs are none) ∙ nothing in
    let within : stays_within jobs d.stages ≡ true = ap (λ n. stays_within n d.stages) are ∙ stays_within-sound d dates t whole in
    ap (λ rs. plant_or_first rs (plant_with d dates t)) whole
    ∙ ap (λ b. Ok (plant_with d dates (table_within b t))) (sym within)

answer-same : (refusals all : List PlantError) (p q : Plant) → all ≡ refusals → (refusals ≡ [] → plant_or_first all q ≡ Ok p) → plant_or_first refusals p ≡ plant_or_first all q
answer-same [] all p q same none = sym (none refl)
answer-same (refusal ∷ rest) all p q same none = rw same refl

-- so the answer of that is the plant of the draft, or its first refusal
pub answer-counted : (d : DraftPlant) (dates : Option (List ℕ)) (t : Option JobTimes) (jobs : ℕ) → jobs ≡ length (plant_with d dates t).demands → each (stage_counts jobs t) d.stages ≡ [] → plant_or_first (whole_refusals (plant_with d dates (table_within (stays_within jobs d.stages) t))) (plant_with d dates (table_within (stays_within jobs d.stages) t)) ≡ finished_plant d dates t
answer-counted d dates t jobs are none =
    answer-same (whole_refusals (plant_with d dates (table_within (stays_within jobs d.stages) t))) (whole_refusals (plant_with d dates t)) _ (plant_with d dates t)
    (sym (whole_refusals-counted d dates t jobs are none)) (finished-counted d dates t jobs are none)

-- the plant that is made, where the columns of one that is too large are left out
pub plant-left_out : (made : Plant) (d : DraftPlant) (dates : Option (List ℕ)) (jobs : ℕ) (stages : List DraftStage) (table times : Option JobTimes) → made ≡ plant_with d dates table → table ≡ table_within (stays_within jobs stages) times → stages ≡ d.stages → made ≡ plant_with d dates (table_within (stays_within jobs d.stages) times)
plant-left_out made d dates jobs stages table times is left same =
    is ∙ ap (plant_with d dates) (left ∙ ap (λ all. table_within (stays_within jobs all) times) same)
