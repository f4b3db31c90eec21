-- A sound draft makes a plant in which no part is refused by itself, whatever its files hold.
use Rattle.std.proofs.Common.{◌≡◌, ℕ, zero, suc, ◌+◌, ◌-◌, ◌<◌, ◌≤◌, Bool, true, false, cond, List, [], ◌∷◌, ◌++◌, length, map, take, get_or, All, Option, Some, None, Vec, refl, ap, ◌∙◌, inl, inr, arith}
use Rattle.std.specs.Prelude.{Contains, IfSome, ◌&&◌, ◌||◌, not, nat_le, is_some, option_map, bytes_eq, codes, vec_len}
use Rattle.std.specs.Global.{Global}
use Rattle.std.specs.List.{filter, list_all, list_any, range_with_len}
use Rattle.std.proofs.lemmas.Bool.{cases_lt, leb-true, le-ltb, eq-eqb}
use Rattle.std.proofs.lemmas.List.{length-map, take-map, get_or_past}
use Rattle.std.proofs.lemmas.List.Elements.{All-head, All-tail, All-get_or, All-map, All-weaker}
use Rattle.std.proofs.lemmas.List.Folds.{list_any_at}
use Rattle.std.proofs.lemmas.List.FromFn.{length-range_with_len, get_or-range_with_len}
use Rattle.line_base.specs.Text.{is_between}
use Rattle.line_base.specs.declared.limits.TheConstants.{MAX_CARDS, MAX_TIME, MAX_COLUMN, MAX_DEMAND_DATE, MAX_OBSERVE_DATE}
use Rattle.demand_feed.specs.JobTimes.{JobTimes, number_for, numbers_in}
use Rattle.plant_model.specs.declared.error.PlantError.{PlantError}
use Rattle.plant_model.specs.declared.place.FileTable.{FileTable}
use Rattle.plant_model.specs.declared.place.FileTable.TheVariants.{InStage, InMachine, InLoop}
use Rattle.plant_model.specs.Place.{key_of}
use Rattle.plant_model.specs.declared.plant.Policy.{Policy}
use Rattle.plant_model.specs.declared.plant.Policy.TheVariants.{Kanban, Conwip, BaseStock, Extended}
use Rattle.plant_model.specs.Refusals.{each_from, each, is_reserved, bad_name, bad_names, machine_name_twice, stage_name_twice, names_twice, above, element_above, empty, cards_out_of_range, top_out_of_range, times_out_of_range, machine_out_of_range, stage_out_of_range, loop_out_of_range, out_of_range, feeds_not_later, all_feeds_not_later, second_final, second_finals, parts_refusals}
use Rattle.plant_file.specs.declared.draft.DraftDemands.{DraftDemands}
use Rattle.plant_file.specs.declared.draft.DraftDemands.TheVariants.{Given, File}
use Rattle.plant_file.specs.declared.draft.DraftTimes.{DraftTimes}
use Rattle.plant_file.specs.declared.draft.DraftTimes.TheVariants.{Column, Fixed, Each}
use Rattle.plant_file.specs.Draft.{DraftMachine, DraftStage}
use Rattle.plant_file.specs.declared.draft.DraftLoop.{DraftLoop}
use Rattle.plant_file.specs.declared.draft.DraftPlant.{DraftPlant}
use Rattle.plant_keys.specs.Readers.{is_filled}
use Rattle.plant_file.specs.Draft.{IsSoundDraft, file_of, demands_file, columns_of, is_used, uses, are_up_to, are_sound_times, is_sound_machine, is_sound_stage, is_sound_loop, is_sound_policy, are_sound_demands}
use Rattle.plant_file.specs.Counts.{table_within}
use Rattle.plant_file.specs.Finish.{HasColumn, HasColumns, IsWithinLimit, dates_with, times_with, machine_with, stage_with, loop_with, plant_with}

-- both of two tests pass
and-both : (a b : Bool) → (a && b) ≡ true → (a ≡ true) × (b ≡ true)
and-both true b h = (refl, h)
and-both false b h = cc

-- what fails where its denial passes
not-true : (b : Bool) → not b ≡ true → b ≡ false
not-true true h = cc
not-true false h = refl

-- what holds of a value that there may be holds where it says more
pub IfSome-weaker : {T : Type 0} (o : Option T) (P Q : T → Type 0) → ((x : T) → P x → Q x) → IfSome o P → IfSome o Q
IfSome-weaker None P Q weaker h = h
IfSome-weaker (Some x) P Q weaker h = weaker x h

-- 1. The columns that machines use are the table's.

Contains-cons : {X : Type 0} (y x : X) (xs : List X) → Contains xs x → Contains (y ∷ xs) x
Contains-cons y x xs (k, below, is) = (suc k, omega arith, is)

Contains-cond : {X : Type 0} (b : Bool) (y x : X) (xs : List X) → Contains xs x → Contains (cond b (y ∷ xs) xs) x
Contains-cond true y x xs h = Contains-cons y x xs h
Contains-cond false y x xs h = h

-- an element that passes is kept
Contains-filter : (test : ℕ → Bool) (xs : List ℕ) (x : ℕ) → Contains xs x → test x ≡ true → Contains (filter test xs) x
Contains-filter test [] x (k, below, is) passes = absurd (omega arith)
Contains-filter test (y ∷ ys) x (zero, below, is) passes =
    rw (is, passes) (let h : Contains (x ∷ filter test ys) x = (0, omega arith, refl) in h)
Contains-filter test (y ∷ ys) x (suc k, below, is) passes =
    Contains-cond (test y) y x (filter test ys) (Contains-filter test ys x (k, omega arith, is) passes)

Contains-range : (test : ℕ → Bool) (n x : ℕ) → 1 ≤ x → x ≤ n → test x ≡ true → Contains (filter test (range_with_len 1 n)) x
Contains-range test n x low high passes =
    let below : x - 1 < n = omega arith in
    Contains-filter test (range_with_len 1 n) x
    (x - 1, omega (arith, length-range_with_len 1 n), get_or-range_with_len 1 n (x - 1) x below ∙ omega arith) passes

-- a column between its limits that a machine uses is one of the columns
used-column : (d : DraftPlant) (i j column : ℕ) (s : DraftStage) (m : DraftMachine) → i < length d.stages → j < length (get_or d.stages i s).machines
    → (get_or (get_or d.stages i s).machines j m).times ≡ Column column → is_between 1 MAX_COLUMN column ≡ true → Contains (columns_of d) column
unfolding columns_of
used-column d i j column s m in_stages in_machines is between =
    let limits = and-both (nat_le 1 column) (nat_le column MAX_COLUMN) between in
    let low = leb-true 1 column limits.0 in
    let high = leb-true column MAX_COLUMN limits.1 in
    let here : uses column (get_or (get_or d.stages i s).machines j m).times ≡ true =
    ap (uses column) is ∙ eq-eqb column column refl
    in
    let used : is_used d column ≡ true =
    list_any_at (λ (t : DraftStage). list_any (λ (n : DraftMachine). uses column n.times) t.machines) d.stages i s in_stages
    (list_any_at (λ (n : DraftMachine). uses column n.times) (get_or d.stages i s).machines j m in_machines here)
    in
    Contains-range (is_used d) MAX_COLUMN column low high used

-- an element of a list in which each passes
tested-at : {X : Type 0} (test : X → Bool) (xs : List X) (i : ℕ) (d : X) → list_all test xs ≡ true → i < length xs → test (get_or xs i d) ≡ true
tested-at test [] i d all below = absurd (omega arith)
tested-at test (x ∷ xs) zero d all below = (and-both (test x) (list_all test xs) all).0
tested-at test (x ∷ xs) (suc i) d all below = tested-at test xs i d (and-both (test x) (list_all test xs) all).1 (omega arith)

-- the tests of a sound stage, one by one
record HasSoundKeys (s : DraftStage) : Type 0 where
  name : is_reserved s.name ≡ false
  card_time : nat_le s.card_time MAX_TIME ≡ true
  cards : nat_le s.cards MAX_CARDS ≡ true
  filled : is_filled s.machines ≡ true
  stock : nat_le s.stock MAX_CARDS ≡ true
  travel : nat_le s.travel MAX_TIME ≡ true
  machines : list_all is_sound_machine s.machines ≡ true

HasSoundKeys-from : (s : DraftStage) → is_sound_stage s ≡ true → HasSoundKeys s
HasSoundKeys-from s h =
    let h_1 = and-both (not (is_reserved s.name)) _ h in
    let h_2 = and-both (nat_le s.card_time MAX_TIME) _ h_1.1 in
    let h_3 = and-both (nat_le s.cards MAX_CARDS) _ h_2.1 in
    let h_4 = and-both (is_filled s.machines) _ h_3.1 in
    let h_5 = and-both (nat_le s.stock MAX_CARDS) _ h_4.1 in
    let h_6 = and-both (nat_le s.travel MAX_TIME) _ h_5.1 in
    record {
      name = not-true (is_reserved s.name) h_1.0;
      card_time = h_2.0;
      cards = h_3.0;
      filled = h_4.0;
      stock = h_5.0;
      travel = h_6.0;
      machines = h_6.1;
    }

-- a column is one of the table's where it is one of those that are used
has-column : (table : Option JobTimes) (used : List ℕ) (t : DraftTimes) → IfSome table (λ (u : JobTimes). u.columns ≡ used)
    → ((column : ℕ) → t ≡ Column column → Contains used column) → HasColumn table t
has-column table used (Column column) same is_used =
    IfSome-weaker table (λ (u : JobTimes). u.columns ≡ used) (λ (u : JobTimes). Contains u.columns column)
    (λ u e. rw e (is_used column refl)) same
has-column table used (Fixed time) same is_used = tt
has-column table used (Each times) same is_used = tt

HasColumns-draft : (d : DraftPlant) (table : Option JobTimes) → IsSoundDraft d → IfSome table (λ (t : JobTimes). t.columns ≡ columns_of d) → All (HasColumns table) d.stages
HasColumns-draft d table sound same i s in_stages j m in_machines =
    has-column table (columns_of d) (get_or (get_or d.stages i s).machines j m).times same
    (λ column is.
    let stage = HasSoundKeys-from (get_or d.stages i s) (tested-at is_sound_stage d.stages i s sound.stages in_stages) in
    let machine = tested-at is_sound_machine (get_or d.stages i s).machines j m stage.machines in_machines in
    let test = (and-both (nat_le (get_or (get_or d.stages i s).machines j m).servers MAX_CARDS) _ machine).1 in
    used-column d i j column s m in_stages in_machines is (rw is at test))

-- the same of the table that is used
pub HasColumns-within : (d : DraftPlant) (within : Bool) (table : Option JobTimes) → IsSoundDraft d → IfSome table (λ (t : JobTimes). t.columns ≡ columns_of d) → All (HasColumns (table_within within table)) d.stages
HasColumns-within d true table sound same = HasColumns-draft d table sound same
HasColumns-within d false table sound same = HasColumns-draft d None sound tt

-- 2. Nothing is refused of the parts.

-- a number at most its limit isn't above it
above-none : (place : List ℕ) (limit n : ℕ) → n ≤ limit → above place limit n ≡ []
above-none place limit n low = rw (le-ltb limit n low) refl

above-tested : (place : List ℕ) (limit n : ℕ) → nat_le n limit ≡ true → above place limit n ≡ []
above-tested place limit n test = above-none place limit n (leb-true n limit test)

-- a list with an element isn't refused
empty-none : {X : Type 0} (place : List ℕ) (xs : List X) → is_filled xs ≡ true → empty place xs ≡ []
empty-none place [] h = cc
empty-none place (x ∷ xs) h = refl

-- nothing is refused of elements that are refused nothing
each_from-none : {X : Type 0} (f : ℕ → X → List PlantError) (P : X → Type 0) (k : ℕ) (xs : List X) → All P xs → ((i : ℕ) (x : X) → P x → f i x ≡ []) → each_from f k xs ≡ []
each_from-none f P k [] all none = refl
each_from-none f P k (x ∷ xs) all none =
    rw (none k x (All-head P x xs all)) (each_from-none f P (k + 1) xs (All-tail P x xs all) none)

-- the same of elements that pass a test
each_from-tested : {X : Type 0} (f : ℕ → X → List PlantError) (test : X → Bool) (k : ℕ) (xs : List X) → list_all test xs ≡ true → ((i : ℕ) (x : X) → test x ≡ true → f i x ≡ []) → each_from f k xs ≡ []
each_from-tested f test k [] all none = refl
each_from-tested f test k (x ∷ xs) all none =
    let h = and-both (test x) (list_all test xs) all in
    rw (none k x h.0) (each_from-tested f test (k + 1) xs h.1 none)

-- the same of what the elements become
each_from-made : {X Y : Type 0} (f : ℕ → Y → List PlantError) (g : X → Y) (test : X → Bool) (k : ℕ) (xs : List X) → list_all test xs ≡ true → ((i : ℕ) (x : X) → test x ≡ true → f i (g x) ≡ []) → each_from f k (map g xs) ≡ []
each_from-made f g test k [] all none = refl
each_from-made f g test k (x ∷ xs) all none =
    let h = and-both (test x) (list_all test xs) all in
    rw (none k x h.0) (each_from-made f g test (k + 1) xs h.1 none)

-- what is refused of elements is what is refused of what they become
pub each_from-map : {X Y : Type 0} (f : ℕ → Y → List PlantError) (h : ℕ → X → List PlantError) (g : X → Y) (k : ℕ) (xs : List X) → ((i : ℕ) (x : X) → f i (g x) ≡ h i x) → each_from f k (map g xs) ≡ each_from h k xs
each_from-map f h g k [] same = refl
each_from-map f h g k (x ∷ xs) same = rw (same k x) (ap (λ rest. h k x ++ rest) (each_from-map f h g (k + 1) xs same))

-- 5
bad_names-none : (d : DraftPlant) (dates : Option (List ℕ)) (table : Option JobTimes) → IsSoundDraft d → bad_names (plant_with d dates table) ≡ []
bad_names-none d dates table sound =
    each_from-made bad_name (stage_with table) is_sound_stage 0 d.stages sound.stages
    (λ i s test. rw (HasSoundKeys-from s test).name refl)

-- whether an element of what others become passes
pub list_any-map : {X Y : Type 0} (test : Y → Bool) (g : X → Y) (xs : List X) → list_any test (map g xs) ≡ list_any (λ x. test (g x)) xs
list_any-map test g [] = refl
list_any-map test g (x ∷ xs) = ap (λ rest. test (g x) || rest) (list_any-map test g xs)

-- 6, of machines
machine_names-same : (table : Option JobTimes) (i : ℕ) (machines : List DraftMachine) (j : ℕ) (m : DraftMachine) → machine_name_twice i (map (machine_with table) machines) j (machine_with table m) ≡ machine_name_twice i machines j m
machine_names-same table i machines j m =
    rw (take-map (machine_with table) j machines, list_any-map (λ other. bytes_eq other.name m.name) (machine_with table) (take j machines)) refl

stage_names-same : (table : Option JobTimes) (stages : List DraftStage) (i : ℕ) (s : DraftStage) → stage_name_twice (map (stage_with table) stages) i (stage_with table s) ≡ stage_name_twice stages i s
stage_names-same table stages i s =
    rw (
      take-map (stage_with table) i stages,
      list_any-map (λ other. bytes_eq other.name s.name) (stage_with table) (take i stages),
      each_from-map (machine_name_twice i (map (machine_with table) s.machines)) (machine_name_twice i s.machines) (machine_with table) 0 s.machines (machine_names-same table i s.machines),
    )
    refl

names_twice-none : (d : DraftPlant) (dates : Option (List ℕ)) (table : Option JobTimes) → IsSoundDraft d → names_twice (plant_with d dates table) ≡ []
names_twice-none d dates table sound =
    each_from-map (stage_name_twice (map (stage_with table) d.stages)) (stage_name_twice d.stages) (stage_with table) 0 d.stages (stage_names-same table d.stages)
    ∙ sound.names

-- 8 and 9
pub feeds-none : (d : DraftPlant) (dates : Option (List ℕ)) (table : Option JobTimes) → IsSoundDraft d → all_feeds_not_later (plant_with d dates table) ≡ []
feeds-none d dates table sound =
    ap (λ count. each (feeds_not_later count) (map (stage_with table) d.stages)) (length-map d.stages (stage_with table))
    ∙ each_from-map (feeds_not_later (length d.stages)) (feeds_not_later (length d.stages)) (stage_with table) 0 d.stages (λ i s. refl)
    ∙ sound.feeds

finals-none : (d : DraftPlant) (dates : Option (List ℕ)) (table : Option JobTimes) → IsSoundDraft d → second_finals (plant_with d dates table) ≡ []
finals-none d dates table sound =
    ap (λ count. each (second_final count) (map (stage_with table) d.stages)) (length-map d.stages (stage_with table))
    ∙ each_from-map (second_final (length d.stages)) (second_final (length d.stages)) (stage_with table) 0 d.stages (λ i s. refl)
    ∙ sound.finals

-- a number of a row, or the 0 past its end, is within the limit of the row
number-within : (row : List ℕ) (i limit : ℕ) → All (λ n. n ≤ limit) row → get_or row i 0 ≤ limit
number-within row i limit low =
    elim (cases_lt i (length row)) [
      | inl inside ↦ All-get_or (λ n. n ≤ limit) row i 0 inside low
      | inr past ↦ rw (get_or_past row i 0 past) (omega arith)
    ]

numbers-within : (t : JobTimes) (column : ℕ) → IsWithinLimit t → All (λ n. n ≤ MAX_TIME) (numbers_in t column)
numbers-within t column low =
    All-map (λ n. n ≤ MAX_TIME) (number_for t.columns column) t.rows
    (All-weaker (λ row. All (λ n. n ≤ MAX_TIME) row) (λ row. number_for t.columns column row ≤ MAX_TIME)
    (λ row h. number-within row _ MAX_TIME h) t.rows low)

-- 7, of a column of the table
column-none : (machine : FileTable) (table : Option JobTimes) (column : ℕ) → IfSome table IsWithinLimit → times_out_of_range machine (times_with table (Column column)) ≡ []
column-none machine None column low = refl
column-none machine (Some t) column low =
    each_from-none (element_above _ MAX_TIME) (λ n. n ≤ MAX_TIME) 0 (numbers_in t column) (numbers-within t column low)
    (λ i n h. above-none _ MAX_TIME n h)

-- 7, of a list of numbers
numbers-none : (place : List ℕ) (limit : ℕ) (numbers : List ℕ) → are_up_to limit numbers ≡ true → each (element_above place limit) numbers ≡ []
numbers-none place limit numbers h =
    each_from-tested (element_above place limit) (λ n. nat_le n limit) 0 numbers h (λ i n test. above-tested _ limit n test)

-- 7, of job times
times-none : (machine : FileTable) (table : Option JobTimes) (t : DraftTimes) → IfSome table IsWithinLimit → are_sound_times t ≡ true → times_out_of_range machine (times_with table t) ≡ []
times-none machine table (Column column) low h = column-none machine table column low
times-none machine table (Fixed time) low h = above-tested _ MAX_TIME time h
times-none machine table (Each times) low h = numbers-none _ MAX_TIME times h

machine-none : (i j : ℕ) (table : Option JobTimes) (m : DraftMachine) → IfSome table IsWithinLimit → is_sound_machine m ≡ true → machine_out_of_range i j (machine_with table m) ≡ []
machine-none i j table m low h =
    let tests = and-both (nat_le m.servers MAX_CARDS) (are_sound_times m.times) h in
    rw (above-tested _ MAX_CARDS m.servers tests.0) (times-none (InMachine i j) table m.times low tests.1)

is_filled-map : {X Y : Type 0} (g : X → Y) (xs : List X) → is_filled (map g xs) ≡ is_filled xs
is_filled-map g [] = refl
is_filled-map g (x ∷ xs) = refl

stage-none : (i : ℕ) (table : Option JobTimes) (s : DraftStage) → IfSome table IsWithinLimit → is_sound_stage s ≡ true → stage_out_of_range i (stage_with table s) ≡ []
stage-none i table s low h =
    let tests = HasSoundKeys-from s h in
    rw (
      above-tested (key_of (InStage i) (codes "card_time")) MAX_TIME s.card_time tests.card_time,
      above-tested (key_of (InStage i) (codes "cards")) MAX_CARDS s.cards tests.cards,
      empty-none (key_of (InStage i) (codes "machine")) (map (machine_with table) s.machines) (is_filled-map (machine_with table) s.machines ∙ tests.filled),
      above-tested (key_of (InStage i) (codes "stock")) MAX_CARDS s.stock tests.stock,
      above-tested (key_of (InStage i) (codes "travel")) MAX_TIME s.travel tests.travel,
    )
    (each_from-made (machine_out_of_range i) (machine_with table) is_sound_machine 0 s.machines tests.machines
    (λ j m test. machine-none i j table m low test))

loop-none : (k count : ℕ) (l : DraftLoop) → is_sound_loop l ≡ true → loop_out_of_range k (loop_with count l) ≡ []
loop-none k count l h =
    let tests = and-both (nat_le l.card_time MAX_TIME) (nat_le l.cards MAX_CARDS) h in
    rw (above-tested (key_of (InLoop k) (codes "card_time")) MAX_TIME l.card_time tests.0) (above-tested _ MAX_CARDS l.cards tests.1)

policy-none : (policy : Policy) → is_sound_policy policy ≡ true → cards_out_of_range policy ≡ []
policy-none Kanban h = refl
policy-none (Conwip cards) h = above-tested _ MAX_CARDS cards h
policy-none BaseStock h = refl
policy-none Extended h = refl

-- the dates of a demand file, there where one is named, at least one, within their limit
pub record AreDates (demands : DraftDemands) (dates : Option (List ℕ)) : Type 0 where
  pub given : is_some dates ≡ is_some (file_of demands)
  pub filled : IfSome dates (λ ds. is_filled ds ≡ true)
  pub limit : IfSome dates (λ ds. All (λ date. date ≤ MAX_DEMAND_DATE) ds)

dates-filled : (demands : DraftDemands) (dates : Option (List ℕ)) → are_sound_demands demands ≡ true → AreDates demands dates → is_filled (dates_with demands dates) ≡ true
dates-filled (Given ds) dates h are = (and-both (is_filled ds) _ h).0
dates-filled (File name column) None h are = let e = are.given in cc
dates-filled (File name column) (Some ds) h are = are.filled

dates-none : (place : List ℕ) (demands : DraftDemands) (dates : Option (List ℕ)) → are_sound_demands demands ≡ true → AreDates demands dates → each (element_above place MAX_DEMAND_DATE) (dates_with demands dates) ≡ []
dates-none place (Given ds) dates h are = numbers-none place MAX_DEMAND_DATE ds (and-both (is_filled ds) _ h).1
dates-none place (File name column) None h are = refl
dates-none place (File name column) (Some ds) h are =
    each_from-none (element_above place MAX_DEMAND_DATE) (λ n. n ≤ MAX_DEMAND_DATE) 0 ds are.limit (λ i n low. above-none _ MAX_DEMAND_DATE n low)

top-none : (d : DraftPlant) (dates : Option (List ℕ)) (table : Option JobTimes) → IsSoundDraft d → AreDates d.demands dates → top_out_of_range (plant_with d dates table) ≡ []
top-none d dates table sound are =
    rw (
      above-tested (codes "card_time") MAX_TIME d.card_time sound.card_time,
      policy-none d.policy sound.policy,
      empty-none (codes "demands") (dates_with d.demands dates) (dates-filled d.demands dates sound.demands are),
      dates-none (codes "demands") d.demands dates sound.demands are,
      numbers-none (codes "observe") MAX_OBSERVE_DATE d.observe sound.observe,
    )
    (empty-none (codes "stage") (map (stage_with table) d.stages) (is_filled-map (stage_with table) d.stages ∙ sound.filled))

-- 7
ranges-none : (d : DraftPlant) (dates : Option (List ℕ)) (table : Option JobTimes) → IsSoundDraft d → AreDates d.demands dates → IfSome table IsWithinLimit → out_of_range (plant_with d dates table) ≡ []
ranges-none d dates table sound are low =
    rw (
      top-none d dates table sound are,
      each_from-made stage_out_of_range (stage_with table) is_sound_stage 0 d.stages sound.stages (λ i s test. stage-none i table s low test),
    )
    (each_from-made loop_out_of_range (loop_with (length d.stages)) is_sound_loop 0 d.loops sound.loops (λ k l test. loop-none k (length d.stages) l test))

-- no part of the plant of a sound draft is refused by itself
pub parts-none : (d : DraftPlant) (dates : Option (List ℕ)) (table : Option JobTimes) → IsSoundDraft d → AreDates d.demands dates → IfSome table IsWithinLimit → parts_refusals (plant_with d dates table) ≡ []
unfolding parts_refusals
parts-none d dates table sound are low =
    rw (
      bad_names-none d dates table sound,
      names_twice-none d dates table sound,
      ranges-none d dates table sound are low,
      feeds-none d dates table sound,
    )
    (finals-none d dates table sound)

filled-from : (xs : List ℕ) → 0 < length xs → is_filled xs ≡ true
filled-from [] h = absurd (omega arith)
filled-from (x ∷ xs) h = refl

-- dates that a vector holds
pub AreDates-from : (d : DraftPlant) (dates : Option (Vec ℕ Global)) → is_some dates ≡ is_some (demands_file d) → IfSome dates (λ read. 0 < vec_len read)
    → IfSome dates (λ read. All (λ date. date ≤ MAX_DEMAND_DATE) read.items) → AreDates d.demands (option_map (λ (read : Vec ℕ Global). read.items) dates)
AreDates-from d None given some limit = record { given = given; filled = tt; limit = tt }
AreDates-from d (Some read) given some limit = record { given = given; filled = filled-from read.items (omega (arith, some, read.ok.0)); limit = limit }
