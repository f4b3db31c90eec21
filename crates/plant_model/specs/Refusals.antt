-- What is wrong with a plant: for each class of refusals the list of them, in the order in which a plant file has the
-- keys; then the classes in order. The answer to a list is its first refusal.
use Rattle.std.specs.Prelude.{◌≡◌, ◌≢◌, ⊤, ℕ, ◌+◌, ◌-◌, ◌*◌, Bool, not, ◌&&◌, ◌||◌, ◌==◌, nat_lt, if◌then◌else◌, List, [], ◌∷◌, ◌++◌, length, take, slice_index, Option, None, Some, is_none, Result, MatchResult, codes, bytes_eq}
use Rattle.std.specs.Option.{option_map_or}
use Rattle.std.specs.List.{list_any}
use Rattle.line_base.specs.Limits.{most_stages, most_stations, most_demands, most_dates, most_loops, most_observed, last_observed, most_cards, longest_time, last_demand}
use Rattle.line_base.specs.declared.times.Times.{Times}
use Rattle.line_base.specs.declared.times.Times.TheVariants.{Fixed, Each}
use Rattle.plant_model.specs.declared.error.PlantError.{PlantError}
use Rattle.plant_model.specs.declared.error.PlantError.TheVariants.{BadName, NameTwice, OutOfRange, FeedsNotLater, TwoFinals, TimesCount, DemandOrder, TooFewCards, LoopNotDownstream, TooLarge, NoMemory}
use Rattle.plant_model.specs.declared.plant.Policy.{Policy}
use Rattle.plant_model.specs.declared.plant.Policy.TheVariants.{Kanban, Conwip, BaseStock, Extended}
use Rattle.plant_model.specs.declared.plant.Machine.{Machine as MachineOf}
use Rattle.plant_model.specs.declared.plant.Stage.{Stage as StageOf}
use Rattle.plant_model.specs.Stages.{Machine, Stage}
use Rattle.plant_model.specs.declared.plant.CardLoop.{CardLoop}
use Rattle.plant_model.specs.declared.plant.Plant.{Plant}
use Rattle.plant_model.specs.Line.{station_count, is_first, is_downstream, path_stock, stock_between}
use Rattle.plant_model.specs.declared.place.FileTable.{FileTable}
use Rattle.plant_model.specs.declared.place.FileTable.TheVariants.{InStage, InMachine, InLoop}
use Rattle.plant_model.specs.Place.{at, place_of, key_of}

-- the refusal, where the test gives true
abbrev pub refuse_if : Bool → PlantError → List PlantError
refuse_if test refusal = if test then refusal ∷ [] else []

-- what `f` gives for each element and its number, from number k on
abbrev pub each_from : {X : Type 0} → (ℕ → X → List PlantError) → ℕ → List X → List PlantError
each_from f k [] = []
each_from f k (x ∷ xs) = f k x ++ each_from f (k + 1) xs

-- what `f` gives for each element and its number
abbrev pub each : {X : Type 0} → (ℕ → X → List PlantError) → List X → List PlantError
each f xs = each_from f 0 xs

-- a name that no stage may have
abbrev pub is_reserved : List ℕ → Bool
is_reserved name = bytes_eq name (codes "feed") || bytes_eq name (codes "deliver")

-- 5, of stage i
abbrev pub bad_name : ℕ → Stage → List PlantError
bad_name i s = refuse_if (is_reserved s.name) (BadName (key_of (InStage i) (codes "name")))

-- 5: a stage has a reserved name
abbrev pub bad_names : Plant → List PlantError
bad_names p = each bad_name p.stages

-- 6, of machine j of stage i
abbrev pub machine_name_twice : {T : Type 0} → ℕ → List (MachineOf T) → ℕ → MachineOf T → List PlantError
machine_name_twice i machines j m =
    refuse_if
    (list_any (λ other. bytes_eq other.name m.name) (take j machines))
    (NameTwice (key_of (InMachine i j) (codes "name")))

-- 6, of stage i: its name, then those of its machines
abbrev pub stage_name_twice : {T : Type 0} → List (StageOf T) → ℕ → StageOf T → List PlantError
stage_name_twice stages i s =
    refuse_if
    (list_any (λ other. bytes_eq other.name s.name) (take i stages))
    (NameTwice (key_of (InStage i) (codes "name")))
    ++ each (machine_name_twice i s.machines) s.machines

-- 6, of stages: an earlier one, or an earlier machine of the stage, has the name
abbrev pub names_twice_in : {T : Type 0} → List (StageOf T) → List PlantError
names_twice_in stages = each (stage_name_twice stages) stages

-- 6: an earlier stage, or an earlier machine of the stage, has the name
abbrev pub names_twice : Plant → List PlantError
names_twice p = names_twice_in p.stages

-- a number above its limit
abbrev pub above : List ℕ → ℕ → ℕ → List PlantError
above place limit n = refuse_if (nat_lt limit n) (OutOfRange place)

-- number k of a list, above the limit
abbrev pub element_above : List ℕ → ℕ → ℕ → ℕ → List PlantError
element_above list limit k n = above (at list k) limit n

-- a list without an element
abbrev pub empty : {X : Type 0} → List ℕ → List X → List PlantError
empty place [] = OutOfRange place ∷ []
empty place (_ ∷ _) = []

-- 7, of the line's cards
abbrev pub cards_out_of_range : Policy → List PlantError
cards_out_of_range Kanban = []
cards_out_of_range (Conwip cards) = above (codes "cards") most_cards cards
cards_out_of_range BaseStock = []
cards_out_of_range Extended = []

-- 7, of the keys at the top
abbrev pub top_out_of_range : Plant → List PlantError
top_out_of_range p =
    above (codes "card_time") longest_time p.card_time
    ++ (cards_out_of_range p.policy
    ++ (empty (codes "demands") p.demands
    ++ (each (element_above (codes "demands") last_demand) p.demands
    ++ (each (element_above (codes "observe") last_observed) p.observe
    ++ empty (codes "stage") p.stages))))

-- 7, of job times
abbrev pub times_out_of_range : FileTable → Times → List PlantError
times_out_of_range machine (Fixed time) = above (key_of machine (codes "time")) longest_time time
times_out_of_range machine (Each times) = each (element_above (key_of machine (codes "times")) longest_time) times

-- 7, of machine j of stage i
abbrev pub machine_out_of_range : ℕ → ℕ → Machine → List PlantError
machine_out_of_range i j m =
    above (key_of (InMachine i j) (codes "servers")) most_cards m.servers ++ times_out_of_range (InMachine i j) m.times

-- 7, of stage i: its keys, then its machines
abbrev pub stage_out_of_range : ℕ → Stage → List PlantError
stage_out_of_range i s =
    above (key_of (InStage i) (codes "card_time")) longest_time s.card_time
    ++ (above (key_of (InStage i) (codes "cards")) most_cards s.cards
    ++ (empty (key_of (InStage i) (codes "machine")) s.machines
    ++ (above (key_of (InStage i) (codes "stock")) most_cards s.stock
    ++ (above (key_of (InStage i) (codes "travel")) longest_time s.travel
    ++ each (machine_out_of_range i) s.machines))))

-- 7, of loop k
abbrev pub loop_out_of_range : ℕ → CardLoop → List PlantError
loop_out_of_range k l =
    above (key_of (InLoop k) (codes "card_time")) longest_time l.card_time
    ++ above (key_of (InLoop k) (codes "cards")) most_cards l.cards

-- 7: a number is outside its limits, or a list is empty that may not be
abbrev pub out_of_range : Plant → List PlantError
out_of_range p = top_out_of_range p ++ (each stage_out_of_range p.stages ++ each loop_out_of_range p.loops)

-- 8, of stage i, where there are `count` stages
abbrev pub feeds_not_later : {T : Type 0} → ℕ → ℕ → StageOf T → List PlantError
feeds_not_later count i s =
    option_map_or
    (λ j. refuse_if (not (nat_lt i j && nat_lt j count)) (FeedsNotLater (key_of (InStage i) (codes "feeds"))))
    s.feeds
    []

-- 8, of stages: one feeds a stage that isn't there or stands no later
abbrev pub feeds_not_later_in : {T : Type 0} → List (StageOf T) → List PlantError
feeds_not_later_in stages = each (feeds_not_later (length stages)) stages

-- 8: a stage feeds a stage that isn't there or stands no later
abbrev pub all_feeds_not_later : Plant → List PlantError
all_feeds_not_later p = feeds_not_later_in p.stages

-- 9, of stage i, where there are `count` stages
abbrev pub second_final : {T : Type 0} → ℕ → ℕ → StageOf T → List PlantError
second_final count i s = refuse_if (is_none s.feeds && nat_lt (i + 1) count) (TwoFinals (place_of (InStage i)))

-- 9, of stages: one other than the last feeds none
abbrev pub second_finals_in : {T : Type 0} → List (StageOf T) → List PlantError
second_finals_in stages = each (second_final (length stages)) stages

-- 9: a stage other than the last feeds none
abbrev pub second_finals : Plant → List PlantError
second_finals p = second_finals_in p.stages

-- 11, of the job times of a machine
abbrev pub times_count : ℕ → FileTable → Times → List PlantError
times_count jobs machine (Fixed time) = []
times_count jobs machine (Each times) =
    refuse_if (not (length times == jobs)) (TimesCount (place_of machine) (length times) jobs)

-- 11, of machine j of stage i
abbrev pub machine_times_count : ℕ → ℕ → ℕ → Machine → List PlantError
machine_times_count jobs i j m = times_count jobs (InMachine i j) m.times

-- 11, of stage i
abbrev pub stage_times_count : ℕ → ℕ → Stage → List PlantError
stage_times_count jobs i s = each (machine_times_count jobs i) s.machines

-- 11: a machine has another number of job times than there are demands
abbrev pub times_counts : Plant → List PlantError
times_counts p = each (stage_times_count (length p.demands)) p.stages

-- 12, of the job of demand date k, counted from 0: that date is less than the one before
abbrev pub falling_date : List ℕ → ℕ → ℕ → List PlantError
falling_date dates k date = refuse_if (nat_lt date (slice_index dates (k - 1))) (DemandOrder (k + 1))

-- 12: a demand date is less than the one before
abbrev pub demand_order : Plant → List PlantError
demand_order p = each (falling_date p.demands) p.demands

-- 13, where cards stand against a starting stock
abbrev pub too_few : List ℕ → ℕ → ℕ → List PlantError
too_few place cards stock = refuse_if (nat_lt cards stock) (TooFewCards place cards stock)

-- 13, under CONWIP, of stage i: where it is a first stage, the stock on its path has no card each
abbrev pub too_few_in_line : Plant → ℕ → ℕ → Stage → List PlantError
too_few_in_line p cards i _ = if is_first p i then too_few (codes "cards") cards (path_stock p i) else []

-- 13, under extended kanban, of stage i: its stock has no card each
abbrev pub too_few_in_stage : ℕ → Stage → List PlantError
too_few_in_stage i s = too_few (key_of (InStage i) (codes "cards")) s.cards s.stock

-- 13, of the policy's cards
abbrev pub too_few_under : Plant → Policy → List PlantError
too_few_under p Kanban = []
too_few_under p (Conwip cards) = each (too_few_in_line p cards) p.stages
too_few_under p BaseStock = []
too_few_under p Extended = each too_few_in_stage p.stages

-- whether a loop's first stage exists, and its last is on the path of the first
abbrev pub is_loop : Plant → CardLoop → Bool
is_loop p l = nat_lt l.first (length p.stages) && is_downstream p l.first l.last

-- the starting stock of a loop's stages, if it is a loop
abbrev pub loop_stock : Plant → CardLoop → Option ℕ
loop_stock p l = if is_loop p l then Some (stock_between p l.first l.last) else None

-- 13, of loop k: the starting stock of its stages has no card each; a loop that is none is passed over
abbrev pub too_few_in_loop : Plant → ℕ → CardLoop → List PlantError
too_few_in_loop p k l =
    if is_loop p l then too_few (key_of (InLoop k) (codes "cards")) l.cards (stock_between p l.first l.last) else []

-- 13: there are fewer cards than starting stock that needs one each
abbrev pub too_few_cards : Plant → List PlantError
too_few_cards p = too_few_under p p.policy ++ each (too_few_in_loop p) p.loops

-- 14, of loop k
abbrev pub not_downstream : Plant → ℕ → CardLoop → List PlantError
not_downstream p k l = refuse_if (not (is_loop p l)) (LoopNotDownstream (place_of (InLoop k)))

-- 14: a loop doesn't go down a path
abbrev pub loops_not_downstream : Plant → List PlantError
loops_not_downstream p = each (not_downstream p) p.loops

-- 15, of one limit
abbrev pub larger : List ℕ → ℕ → ℕ → List PlantError
larger what limit n = refuse_if (nat_lt limit n) (TooLarge what)

-- 15: the plant is too large
abbrev pub too_large : Plant → List PlantError
too_large p =
    larger (codes "stages") most_stages (length p.stages)
    ++ (larger (codes "stations") most_stations (station_count p)
    ++ (larger (codes "demands") most_demands (length p.demands)
    ++ (larger (codes "table") most_dates (station_count p * length p.demands)
    ++ (larger (codes "loops") most_loops (length p.loops)
    ++ larger (codes "observe") most_observed (length p.observe)))))

-- 5 to 9: what is wrong with the parts of a plant
unfoldable pub parts_refusals : Plant → List PlantError
parts_refusals p = bad_names p ++ (names_twice p ++ (out_of_range p ++ (all_feeds_not_later p ++ second_finals p)))

-- 11 to 15: what is wrong with a plant as a whole
unfoldable pub whole_refusals : Plant → List PlantError
whole_refusals p =
    times_counts p ++ (demand_order p ++ (too_few_cards p ++ (loops_not_downstream p ++ too_large p)))

-- all refusals, each class before the next
unfoldable pub refusals : Plant → List PlantError
refusals p = parts_refusals p ++ whole_refusals p

-- the first refusal of a list
abbrev pub first : List PlantError → Option PlantError
first [] = None
first (refusal ∷ _) = Some refusal

-- the answer to a list of refusals: its first, or Ok where there is none; running out of memory may come instead
abbrev pub AnswersFirst : Result ⊤ PlantError → List PlantError → Type 0
AnswersFirst r rs = MatchResult r (λ _. rs ≡ []) (λ e. e ≢ NoMemory → first rs ≡ Some e)
