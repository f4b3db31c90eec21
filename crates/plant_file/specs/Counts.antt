-- For the proofs of this crate: how many job times a draft has, and whether that many are allowed.
use Rattle.std.specs.Prelude.{ℕ, ◌+◌, ◌*◌, Bool, true, ◌&&◌, nat_le, if◌then◌else◌, List, length, Option, None, Some}
use Rattle.line_base.specs.Limits.{most_stations, most_demands, most_dates}
use Rattle.line_base.specs.declared.times.Times.{Times}
use Rattle.line_base.specs.declared.times.Times.TheVariants.{Fixed, Each}
use Rattle.demand_feed.specs.JobTimes.{JobTimes}
use Rattle.plant_model.specs.declared.error.PlantError.{PlantError}
use Rattle.plant_model.specs.declared.place.FileTable.TheVariants.{InMachine}
use Rattle.plant_model.specs.Line.{stations_of}
use Rattle.plant_model.specs.Refusals.{each, times_count}
use Rattle.plant_file.specs.Draft.{DraftMachine, DraftStage}
use Rattle.plant_file.specs.Finish.{times_with}

-- how many times a list of job times has
abbrev pub list_length : Times → Option ℕ
list_length (Fixed time) = None
list_length (Each times) = Some (length times)

-- 11, of machine j of stage i, where a column stands in this table
abbrev pub machine_counts : ℕ → Option JobTimes → ℕ → ℕ → DraftMachine → List PlantError
machine_counts jobs table i j m = times_count jobs (InMachine i j) (times_with table m.times)

-- 11, of stage i
abbrev pub stage_counts : ℕ → Option JobTimes → ℕ → DraftStage → List PlantError
stage_counts jobs table i s = each (machine_counts jobs table i) s.machines

-- a plant of this many jobs and these stages has no more stations, jobs and dates than is allowed
abbrev pub stays_within : ℕ → List DraftStage → Bool
stays_within jobs stages =
    nat_le (1 + stations_of stages + 1) most_stations
    && (nat_le jobs most_demands && nat_le ((1 + stations_of stages + 1) * jobs) most_dates)

-- the most numbers of copied columns, which are 512 MiB, and the most stations of a plant that has them copied
abbrev pub most_copied_numbers : ℕ
most_copied_numbers = 67_108_864

abbrev pub most_copying_stations : ℕ
most_copying_stations = 1_000_000

-- a copy of the table's records for each of these stations is no more numbers than that
abbrev pub can_be_copied : List DraftStage → Option JobTimes → Bool
can_be_copied stages None = true
can_be_copied stages (Some table) =
    nat_le (stations_of stages) most_copying_stations
    && nat_le (stations_of stages * length table.rows) most_copied_numbers

-- the table, if the plant stays within its limits
abbrev pub table_within : Bool → Option JobTimes → Option JobTimes
table_within within table = if within then table else None
