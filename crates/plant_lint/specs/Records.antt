-- What is wrong with the records of the files that a draft names: class 10, of each file, beside what stands there.
use Rattle.std.specs.Prelude.{◌≡◌, ◌≢◌, ℕ, List, [], ◌++◌, Option, None, Some, unwrap_or}
use Rattle.std.specs.Option.{option_map_or}
use Rattle.line_base.specs.Limits.{last_demand, longest_time}
use Rattle.demand_feed.specs.BadField.{bad_field}
use Rattle.demand_feed.specs.Dates.{date_columns, dates_of}
use Rattle.demand_feed.specs.Records.{records_of}
use Rattle.demand_feed.specs.Times.{times_of}
use Rattle.demand_feed.specs.declared.bad_field.BadField.{BadField}
use Rattle.plant_file.specs.declared.draft.DraftPlant.{DraftPlant}
use Rattle.plant_file.specs.Draft.{demands_file, demands_column, columns_of}
use Rattle.plant_file.specs.Complete.{HoldsDates, HoldsTimes}
use Rattle.plant_file.specs.Finish.{bad_record}
use Rattle.plant_keys.specs.Found.{AreFaults}
use Rattle.plant_lint.specs.declared.records.TablesRead.{TablesRead}
use Rattle.plant_lint.specs.declared.records.TablesRead.TheVariants.{Whole, Bad}
use Rattle.plant_keys.specs.declared.fault.Wants.{Wants}
use Rattle.plant_keys.specs.declared.fault.Wants.TheVariants as wants
use Rattle.plant_keys.specs.declared.fault.Fault.{Fault}
use Rattle.plant_keys.specs.Faults.{wanting}

-- what is wanted where a record has this text in this column, or no field there
abbrev pub wanted_in : ℕ → Option (List ℕ) → Wants
wanted_in column None = wants.AField column
wanted_in column (Some text) = wants.NumberFor text

-- what is wanted at the first bad record, and where none is bad, in a file without a date
abbrev pub wanted_record : Option BadField → Wants
wanted_record None = wants.ADate
wanted_record (Some field) = wanted_in field.column field.text

-- the first bad record of a demand file
abbrev pub dates_faults : Option (List ℕ) → ℕ → List ℕ → List Fault
dates_faults name column bytes =
    wanting (wanted_record (bad_field (date_columns column) last_demand (records_of bytes)))
    (bad_record (unwrap_or name []) (dates_of column bytes))

-- the first bad record of a times file
abbrev pub times_faults : Option (List ℕ) → List ℕ → List ℕ → List Fault
times_faults name columns bytes =
    wanting (wanted_record (bad_field columns longest_time (records_of bytes)))
    (bad_record (unwrap_or name []) (times_of columns bytes))

-- the first bad record of the demand file of a draft
abbrev pub demand_faults : DraftPlant → Option (List ℕ) → List Fault
demand_faults d bytes = option_map_or (dates_faults (demands_file d) (demands_column d)) bytes []

-- and that of its times file
abbrev pub time_faults : DraftPlant → Option (List ℕ) → List Fault
time_faults d bytes = option_map_or (times_faults d.times_file (columns_of d)) bytes []

-- the first bad record of each file that a draft names
abbrev pub record_faults : DraftPlant → Option (List ℕ) → Option (List ℕ) → List Fault
record_faults d demands times = demand_faults d demands ++ time_faults d times

-- the tables of a draft's files, where no record is bad, and else the bad ones
abbrev pub AreTables : DraftPlant → Option (List ℕ) → Option (List ℕ) → TablesRead → Type 0
AreTables d demands times (Whole dates table) =
    HoldsDates d demands dates × HoldsTimes d times table × (record_faults d demands times ≡ [])
AreTables d demands times (Bad list) =
    (record_faults d demands times ≢ []) × AreFaults list (record_faults d demands times)
