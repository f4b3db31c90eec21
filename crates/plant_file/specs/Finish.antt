-- The plant of a draft and of what its files say, and which refusals of the classes 10 to 15 it meets.
use Rattle.std.specs.Prelude.{◌≡◌, ◌≢◌, ◌≤◌, ⊤, ℕ, All, Contains, IfSome, List, [], ◌∷◌, ◌++◌, length, map, Option, is_some, unwrap_or, Result, Ok, Err, MatchResult}
use Rattle.std.specs.Borrow.{Bor}
use Rattle.std.specs.Option.{option_and_then, option_map_or}
use Rattle.std.specs.Result.{result_ok}
use Rattle.line_base.specs.Limits.{longest_time}
use Rattle.line_base.specs.declared.limits.TheConstants.{MAX_CHECKPOINT_BYTES}
use Rattle.line_base.specs.declared.times.Times.{Times}
use Rattle.line_base.specs.declared.times.Times.TheVariants as made
use Rattle.plant_model.specs.declared.error.PlantError.{PlantError}
use Rattle.plant_model.specs.declared.error.PlantError.TheVariants.{BadRecord, NoMemory}
use Rattle.plant_model.specs.Stages.{Machine, Stage, with_times}
use Rattle.plant_model.specs.declared.plant.CardLoop.{CardLoop}
use Rattle.plant_model.specs.declared.plant.Plant.{Plant}
use Rattle.plant_model.specs.Refusals.{whole_refusals}
use Rattle.demand_feed.specs.Dates.{dates_of}
use Rattle.demand_feed.specs.JobTimes.{JobTimes, numbers_in}
use Rattle.demand_feed.specs.Rows.{FeedResult}
use Rattle.demand_feed.specs.Times.{times_of}
use Rattle.plant_file.specs.declared.draft.DraftDemands.{DraftDemands}
use Rattle.plant_file.specs.declared.draft.DraftDemands.TheVariants.{Given, File}
use Rattle.plant_file.specs.declared.draft.DraftTimes.{DraftTimes}
use Rattle.plant_file.specs.declared.draft.DraftTimes.TheVariants.{Column, Fixed, Each}
use Rattle.plant_file.specs.Draft.{DraftMachine, DraftStage}
use Rattle.plant_file.specs.declared.draft.DraftLoop.{DraftLoop}
use Rattle.plant_file.specs.declared.draft.DraftPlant.{DraftPlant}
use Rattle.plant_file.specs.Draft.{demands_file, demands_column, columns_of}

-- a column that a machine uses is one of the table's
abbrev pub HasColumn : Option JobTimes → DraftTimes → Type 0
HasColumn table (Column column) = IfSome table (λ t. Contains t.columns column)
HasColumn table (Fixed time) = ⊤
HasColumn table (Each times) = ⊤

-- the same of each machine of a stage
abbrev pub HasColumns : Option JobTimes → DraftStage → Type 0
HasColumns table s = All (λ m. HasColumn table m.times) s.machines

-- no number of a table is above the limit
abbrev pub IsWithinLimit : JobTimes → Type 0
IsWithinLimit table = All (λ row. All (λ time. time ≤ longest_time) row) table.rows

-- the dates that are given in the plant file, or those of the demand file
abbrev pub dates_with : DraftDemands → Option (List ℕ) → List ℕ
dates_with (Given dates) read = dates
dates_with (File name column) read = unwrap_or read []

-- the job times of a machine: one time, a list, or a column of the times file, and the time 0 where there is no table
abbrev pub times_with : Option JobTimes → DraftTimes → Times
times_with table (Column column) = option_map_or (λ t. made.Each (numbers_in t column)) table (made.Fixed 0)
times_with table (Fixed time) = made.Fixed time
times_with table (Each times) = made.Each times

-- a machine with its job times
abbrev pub machine_with : Option JobTimes → DraftMachine → Machine
machine_with table m = with_times m (times_with table m.times)

-- a stage with its machines
abbrev pub stage_with : Option JobTimes → DraftStage → Stage
stage_with table s =
    record {
      name = s.name;
      feeds = s.feeds;
      cards = s.cards;
      stock = s.stock;
      travel = s.travel;
      card_time = s.card_time;
      machines = map (machine_with table) s.machines;
    }

-- a loop of a plant of this many stages; an end that names no stage gets the number after the last
abbrev pub loop_with : ℕ → DraftLoop → CardLoop
loop_with count l =
    record {
      first = unwrap_or l.first count;
      last = unwrap_or l.last count;
      cards = l.cards;
      card_time = l.card_time;
    }

-- the plant of a draft, with the dates of its demand file and the table of its times file, where it uses them
abbrev pub plant_with : DraftPlant → Option (List ℕ) → Option JobTimes → Plant
plant_with d dates table =
    record {
      policy = d.policy;
      stages = map (stage_with table) d.stages;
      loops = map (loop_with (length d.stages)) d.loops;
      card_time = d.card_time;
      demands = dates_with d.demands dates;
      observe = d.observe;
    }

-- the plant where nothing is refused, and else the first refusal
abbrev pub plant_or_first : List PlantError → Plant → Result Plant PlantError
plant_or_first [] p = Ok p
plant_or_first (refusal ∷ _) p = Err refusal

-- the plant of a draft with these dates and times, or the first of its refusals 11 to 15
abbrev pub finished_plant : DraftPlant → Option (List ℕ) → Option JobTimes → Result Plant PlantError
finished_plant d dates table = plant_or_first (whole_refusals (plant_with d dates table)) (plant_with d dates table)

-- the bytes of a draft's files, each given exactly where the draft names it, of the times file at most a checkpoint's
pub record AreFilesOf (d : DraftPlant) (demands times : Option (Bor (List ℕ))) : Type 0 where
  pub demands_where_used : is_some demands ≡ is_some (demands_file d)
  pub times_where_used : is_some times ≡ is_some d.times_file
  pub times_size : IfSome times (λ bytes. length bytes.now ≤ MAX_CHECKPOINT_BYTES)

-- 10, of a file: the number of its first bad record
abbrev pub bad_record : {A : Type 0} → List ℕ → FeedResult A → List PlantError
bad_record file (Ok held) = []
bad_record file (Err number) = BadRecord file number ∷ []

-- 10, of a file that may not be used, by what is read of its bytes
abbrev pub bad_record_in : {A : Type 0} → (List ℕ → FeedResult A) → Option (List ℕ) → Option (List ℕ) → List PlantError
bad_record_in read name bytes = option_map_or (λ bs. bad_record (unwrap_or name []) (read bs)) bytes []

-- what is read of the bytes of a file that may not be used, where no record is bad
abbrev pub held_in : {A : Type 0} → (List ℕ → FeedResult A) → Option (List ℕ) → Option A
held_in read bytes = option_and_then (λ bs. result_ok (read bs)) bytes

-- 10: a record of the demand file, or then of the times file, can't be used
abbrev pub bad_records : DraftPlant → Option (List ℕ) → Option (List ℕ) → List PlantError
bad_records d demands times =
    bad_record_in (dates_of (demands_column d)) (demands_file d) demands
    ++ bad_record_in (times_of (columns_of d)) d.times_file times

-- the plant of a draft and of the bytes of its files
abbrev pub plant_of_bytes : DraftPlant → Option (List ℕ) → Option (List ℕ) → Plant
plant_of_bytes d demands times =
    plant_with d (held_in (dates_of (demands_column d)) demands) (held_in (times_of (columns_of d)) times)

-- the plant of a draft and of the bytes of its files, or the first of the refusals 10 to 15
abbrev pub completed_plant : DraftPlant → Option (List ℕ) → Option (List ℕ) → Result Plant PlantError
completed_plant d demands times =
    plant_or_first
    (bad_records d demands times ++ whole_refusals (plant_of_bytes d demands times))
    (plant_of_bytes d demands times)

-- the answer is this plant or refusal; running out of memory may come instead
abbrev pub AnswersPlant : Result Plant PlantError → Result Plant PlantError → Type 0
AnswersPlant r given = MatchResult r (λ p. given ≡ Ok p) (λ e. e ≢ NoMemory → given ≡ Err e)
