-- Soundness: which plants are taken. It is said twice, as that nothing is refused, and in plain facts; the law
-- `soundness_is_plain` says that the two are one.
use Rattle.std.specs.Prelude.{◌≡◌, ◌≢◌, ℕ, suc, ◌+◌, ◌*◌, ◌<◌, ◌≤◌, true, false, [], length, None, Some, slice_index_or}
use Rattle.line_base.specs.Limits.{most_stages, most_stations, most_demands, most_dates, most_loops, most_observed, last_observed, most_cards, longest_time, last_demand}
use Rattle.line_base.specs.declared.times.Times.{Times}
use Rattle.line_base.specs.declared.times.Times.TheVariants.{Fixed, Each}
use Rattle.plant_model.specs.declared.plant.Policy.TheVariants.{Conwip, Extended}
use Rattle.plant_model.specs.declared.plant.CardLoop.{CardLoop}
use Rattle.plant_model.specs.declared.plant.Plant.{Plant}
use Rattle.plant_model.specs.Line.{stage_at, machine_at, loop_at, station_count, next, line_cards, is_first, is_downstream, path_stock, stock_between}
use Rattle.plant_model.specs.Refusals.{is_reserved, refusals}

-- nothing is wrong with the plant
pub record IsSound (p : Plant) : Type 0 where
  pub nothing : refusals p ≡ []

-- no stage has a reserved name, no two stages have one name, and no two machines of a stage
pub record HasSoundNames (p : Plant) : Type 0 where
  pub none_reserved : (i : ℕ) → i < length p.stages → is_reserved (stage_at p i).name ≡ false
  pub stages_differ : (i j : ℕ) → i < j → j < length p.stages → (stage_at p i).name ≢ (stage_at p j).name
  pub machines_differ :
      (i j k : ℕ) → i < length p.stages → j < k → k < length (stage_at p i).machines →
      (machine_at p i j).name ≢ (machine_at p i k).name

-- the sizes of the plant, its dates, and the numbers at the top of its file
pub record HasSoundSizes (p : Plant) : Type 0 where
  pub some_stage : 1 ≤ length p.stages
  pub few_stages : length p.stages ≤ most_stages
  pub few_stations : station_count p ≤ most_stations
  pub some_demand : 1 ≤ length p.demands
  pub few_demands : length p.demands ≤ most_demands
  pub small_table : station_count p * length p.demands ≤ most_dates
  pub few_observed : length p.observe ≤ most_observed
  pub few_loops : length p.loops ≤ most_loops
  pub short_card_time : p.card_time ≤ longest_time
  pub few_line_cards : line_cards p.policy ≤ most_cards
  pub early_demands : (k : ℕ) → k < length p.demands → slice_index_or p.demands k 0 ≤ last_demand
  pub ordered_demands : (k : ℕ) → suc k < length p.demands →
      slice_index_or p.demands k 0 ≤ slice_index_or p.demands (suc k) 0
  pub early_observed : (k : ℕ) → k < length p.observe → slice_index_or p.observe k 0 ≤ last_observed

-- stage i is within the limits, has a machine, feeds a later stage if it isn't the last, and has a card for each stock
-- under extended kanban
pub record IsSoundStage (p : Plant) (i : ℕ) : Type 0 where
  pub few_cards : (stage_at p i).cards ≤ most_cards
  pub little_stock : (stage_at p i).stock ≤ most_cards
  pub short_travel : (stage_at p i).travel ≤ longest_time
  pub short_card_time : (stage_at p i).card_time ≤ longest_time
  pub some_machine : 1 ≤ length (stage_at p i).machines
  pub feeds_later : (j : ℕ) → next p i ≡ Some j → (i < j) × (j < length p.stages)
  pub last_is_final : next p i ≡ None → i + 1 ≡ length p.stages
  pub stock_has_cards : p.policy ≡ Extended → (stage_at p i).stock ≤ (stage_at p i).cards

-- every job time is within the limit, and a list of times has one for each job
abbrev pub AreSoundTimes : ℕ → Times → Type 0
AreSoundTimes jobs (Fixed time) = time ≤ longest_time
AreSoundTimes jobs (Each times) =
    (length times ≡ jobs) × ((k : ℕ) → k < length times → slice_index_or times k 0 ≤ longest_time)

-- machine j of stage i is within the limits
pub record IsSoundMachine (p : Plant) (i j : ℕ) : Type 0 where
  pub few_servers : (machine_at p i j).servers ≤ most_cards
  pub short_times : AreSoundTimes (length p.demands) (machine_at p i j).times

-- a loop goes down a path, and has a card for each starting stock of its stages
pub record IsSoundLoop (p : Plant) (l : CardLoop) : Type 0 where
  pub first_exists : l.first < length p.stages
  pub goes_downstream : is_downstream p l.first l.last ≡ true
  pub stock_has_cards : stock_between p l.first l.last ≤ l.cards
  pub few_cards : l.cards ≤ most_cards
  pub short_card_time : l.card_time ≤ longest_time

-- the plain facts of a sound plant; under CONWIP each first stage has a card for each starting stock on its path
pub record IsSoundPlant (p : Plant) : Type 0 where
  pub names : HasSoundNames p
  pub sizes : HasSoundSizes p
  pub stages : (i : ℕ) → i < length p.stages → IsSoundStage p i
  pub machines : (i j : ℕ) → i < length p.stages → j < length (stage_at p i).machines → IsSoundMachine p i j
  pub loops : (k : ℕ) → k < length p.loops → IsSoundLoop p (loop_at p k)
  pub line_has_cards :
      (i cards : ℕ) → p.policy ≡ Conwip cards → i < length p.stages → is_first p i ≡ true → path_stock p i ≤ cards
