-- What the readers give is within its limits, whatever stands in a tree.
use Rattle.std.proofs.Common.{◌≡◌, ℕ, ℤ, pos, negsuc, Bool, true, false, not, ◌&&◌, nat_le, List, [], ◌∷◌, map, if◌then◌else◌, Option, Some, None, is_some, refl, ◌∙◌, codes, arith}
use Rattle.std.specs.List.{list_all}
use Rattle.std.specs.Option.{option_map_or}
use Rattle.std.proofs.lemmas.Bool.{and_parts, and_from, le-leb}
use Rattle.line_base.specs.Text.{is_between, is_name}
use Rattle.line_base.specs.declared.limits.TheConstants.{MAX_CARDS, MAX_TIME, MAX_COLUMN, MAX_DEMAND_DATE}
use Rattle.plant_model.specs.declared.error.PlantError.{PlantError}
use Rattle.plant_model.specs.declared.plant.Policy.TheVariants.{Kanban, Conwip, BaseStock, Extended}
use Rattle.plant_model.specs.Refusals.{refuse_if, is_reserved}
use Rattle.plant_model.proofs.NoRefusals.{append-nil_left}
use Rattle.toml.specs.Data.{Data, integer, get}
use Rattle.plant_file.specs.declared.draft.DraftDemands.TheVariants.{Given, File}
use Rattle.plant_file.specs.declared.draft.DraftTimes.TheVariants.{Column, Fixed, Each}
use Rattle.plant_keys.specs.declared.keys.Class.TheVariants.{MissingKeys, BadNames, OutOfRanges}
use Rattle.plant_keys.specs.declared.keys.Kind.TheVariants.{StageName, Numbers, Tables}
use Rattle.plant_keys.specs.Readers.{is_filled}
use Rattle.plant_file.specs.Draft.{are_up_to, are_sound_times, is_sound_machine, is_sound_loop, is_sound_policy, are_sound_demands}
use Rattle.plant_keys.specs.Readers.{number_in, number_of, number_at, numbers_at, elements_of, tables_of, text_of, has}
use Rattle.plant_keys.specs.Rules.{out_unless, value_refusals, absence_refusals}
use Rattle.plant_file.specs.Reading.{machine_of, loop_of, policy_of, count_at, time_at, column_at}

if_holds : (P : ℕ → Bool) (b : Bool) (x d : ℕ) → (b ≡ true → P x ≡ true) → P d ≡ true → P (if b then x else d) ≡ true
if_holds P true x d h hd = h refl
if_holds P false x d h hd = hd

module _ (P : ℕ → Bool) (l m d : ℕ) (within : (n : ℕ) → is_between l m n ≡ true → P n ≡ true) (hd : P d ≡ true) where
  number_in-holds : (z : ℤ) → P (number_in l m d z) ≡ true
  number_in-holds (pos n) = if_holds P (is_between l m n) n d (within n) hd
  number_in-holds (negsuc n) = hd

  number_of-holds : (v : Data) → P (number_of l m d v) ≡ true
  number_of-holds (integer z) = number_in-holds z
  number_of-holds _ = hd

  or-holds : (o : Option Data) → P (option_map_or (number_of l m d) o d) ≡ true
  or-holds None = hd
  or-holds (Some v) = number_of-holds v

up_to : (l m n : ℕ) → is_between l m n ≡ true → nat_le n m ≡ true
up_to l m n h = (and_parts (nat_le l n) (nat_le n m) h).1

-- a number that is read is at most its limit, where its default is
pub number_at-up_to : (l m d : ℕ) (key : List ℕ) (t : Data) → nat_le d m ≡ true → nat_le (number_at l m d key t) m ≡ true
number_at-up_to l m d key t hd = or-holds (λ n. nat_le n m) l m d (up_to l m) hd (get key t)

pub number_at-between : (l m d : ℕ) (key : List ℕ) (t : Data) → is_between l m d ≡ true → is_between l m (number_at l m d key t) ≡ true
number_at-between l m d key t hd = or-holds (is_between l m) l m d (λ n h. h) hd (get key t)

-- elements that are made with a property have it
pub list_all-made : {X Y : Type 0} (p : Y → Bool) (f : X → Y) → ((x : X) → p (f x) ≡ true) → (xs : List X) → list_all p (map f xs) ≡ true
list_all-made p f h [] = refl
list_all-made p f h (x ∷ xs) = and_from (p (f x)) (list_all p (map f xs)) (h x) (list_all-made p f h xs)

numbers_or : (m : ℕ) (o : Option Data) → are_up_to m (option_map_or (λ v. map (number_of 0 m 0) (elements_of v)) o []) ≡ true
numbers_or m None = refl
numbers_or m (Some v) =
    list_all-made (λ n. nat_le n m) (number_of 0 m 0)
    (number_of-holds (λ n. nat_le n m) 0 m 0 (up_to 0 m) (le-leb 0 m (omega arith))) (elements_of v)

-- numbers that are read are at most their limit
pub numbers_at-up_to : (m : ℕ) (key : List ℕ) (t : Data) → are_up_to m (numbers_at m key t) ≡ true
numbers_at-up_to m key t = numbers_or m (get key t)

pub count_at-sound : (d : ℕ) (key : List ℕ) (t : Data) → nat_le d MAX_CARDS ≡ true → nat_le (count_at d key t) MAX_CARDS ≡ true
count_at-sound d key t hd = number_at-up_to 0 MAX_CARDS d key t hd

pub time_at-sound : (key : List ℕ) (t : Data) → nat_le (time_at key t) MAX_TIME ≡ true
time_at-sound key t = number_at-up_to 0 MAX_TIME 0 key t refl

-- the column at a key is one of a csv file
pub column_at-sound : (key : List ℕ) (t : Data) → is_between 1 MAX_COLUMN (column_at key t) ≡ true
column_at-sound key t = number_at-between 1 MAX_COLUMN 1 key t refl

policy_sound : (a b c : Bool) (cards : ℕ) → nat_le cards MAX_CARDS ≡ true → is_sound_policy (if a then Kanban else if b then Conwip cards else if c then BaseStock else Extended) ≡ true
policy_sound true b c cards h = refl
policy_sound false true c cards h = h
policy_sound false false true cards h = refl
policy_sound false false false cards h = refl

-- the policy of a tree
pub policy_of-sound : (top : Data) → is_sound_policy (policy_of top) ≡ true
policy_of-sound top = policy_sound _ _ _ _ (count_at-sound 0 (codes "cards") top refl)

times_sound : (a b : Bool) (column time : ℕ) (times : List ℕ) → is_between 1 MAX_COLUMN column ≡ true → nat_le time MAX_TIME ≡ true → are_up_to MAX_TIME times ≡ true → are_sound_times (if a then Column column else if b then Fixed time else Each times) ≡ true
times_sound true b column time times h k e = h
times_sound false true column time times h k e = k
times_sound false false column time times h k e = e

-- a machine of a tree
pub machine_of-sound : (m : Data) → is_sound_machine (machine_of m) ≡ true
machine_of-sound m =
    and_from _ _ (count_at-sound 1 (codes "servers") m refl)
    (times_sound (has (codes "column") m) (has (codes "time") m) _ _ _
    (column_at-sound (codes "column") m) (time_at-sound (codes "time") m)
    (numbers_at-up_to MAX_TIME (codes "times") m))

-- a loop of a tree
pub loop_of-sound : (names : List (List ℕ)) (l : Data) → is_sound_loop (loop_of names l) ≡ true
loop_of-sound names l = and_from _ _ (time_at-sound (codes "card_time") l) (count_at-sound 0 (codes "cards") l refl)

-- a test that gave no refusal
unless-none : (test : Bool) (place : List ℕ) → out_unless test place ≡ [] → test ≡ true
unless-none true place h = refl
unless-none false place h = cc

-- a list of tables that has to be there and to have an element, and is refused by neither class
pub tables_filled : (o : Option Data) (p q : List ℕ) → option_map_or (value_refusals MissingKeys (Tables false) p) o (absence_refusals MissingKeys true p) ≡ [] → option_map_or (value_refusals OutOfRanges (Tables false) q) o [] ≡ [] → is_filled (option_map_or tables_of o []) ≡ true
tables_filled None p q missing out = cc
tables_filled (Some v) p q missing out = unless-none (is_filled (tables_of v)) q out

is_filled-made : {X Y : Type 0} (f : X → Y) (xs : List X) → is_filled (map f xs) ≡ is_filled xs
is_filled-made f [] = refl
is_filled-made f (x ∷ xs) = refl

pub filled-made : {X Y : Type 0} (f : X → Y) (xs : List X) → is_filled xs ≡ true → is_filled (map f xs) ≡ true
filled-made f xs h = is_filled-made f xs ∙ h

-- the demands of a tree, where no list of dates is refused for its length
pub demands_sound : (o : Option Data) (place file : List ℕ) (column : ℕ) → is_between 1 MAX_COLUMN column ≡ true → option_map_or (value_refusals OutOfRanges (Numbers MAX_DEMAND_DATE false) place) o [] ≡ [] → are_sound_demands (if is_some o then Given (option_map_or (λ v. map (number_of 0 MAX_DEMAND_DATE 0) (elements_of v)) o []) else File file column) ≡ true
demands_sound None place file column within out = within
demands_sound (Some v) place file column within out =
    and_from _ _
    (filled-made (number_of 0 MAX_DEMAND_DATE 0) (elements_of v) (unless-none (is_filled (elements_of v)) place (append-nil_left _ _ out)))
    (numbers_or MAX_DEMAND_DATE (Some v))

name_right : (a b : Bool) (e : PlantError) → refuse_if (not (a && b)) e ≡ [] → b ≡ true
name_right true true e h = refl
name_right true false e h = cc
name_right false b e h = cc

-- a stage whose name is not refused has no reserved one
pub name_unreserved : (o : Option Data) (place : List ℕ) → option_map_or (value_refusals BadNames StageName place) o [] ≡ [] → not (is_reserved (option_map_or text_of o [])) ≡ true
name_unreserved None place h = refl
name_unreserved (Some v) place h = name_right (is_name (text_of v)) (not (is_reserved (text_of v))) _ h
