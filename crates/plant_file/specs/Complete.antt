-- For the proofs of this crate: what a draft's files hold, once they have been read.
use Rattle.std.specs.Prelude.{◌≡◌, ◌≤◌, ◌<◌, ℕ, All, List, [], Option, Vec, IfSome, is_some, option_map, vec_len}
use Rattle.std.specs.Global.{Global}
use Rattle.line_base.specs.Limits.{last_demand}
use Rattle.demand_feed.specs.declared.error.FeedError.{FeedError}
use Rattle.demand_feed.specs.declared.error.FeedError.TheVariants as feed
use Rattle.demand_feed.specs.Dates.{dates_of}
use Rattle.demand_feed.specs.JobTimes.{JobTimes}
use Rattle.demand_feed.specs.Times.{times_of}
use Rattle.plant_model.specs.declared.error.PlantError.{PlantError}
use Rattle.plant_model.specs.declared.error.PlantError.TheVariants.{BadRecord, NoMemory}
use Rattle.plant_file.specs.declared.draft.DraftPlant.{DraftPlant}
use Rattle.plant_file.specs.Draft.{demands_file, demands_column, columns_of}
use Rattle.plant_file.specs.Finish.{bad_record_in, held_in}

-- the refusal of a file that gave this error
abbrev pub refusal_of : List ℕ → FeedError → PlantError
refusal_of file (feed.BadRecord number) = BadRecord file number
refusal_of file feed.NoMemory = NoMemory

-- these are the dates in the draft's column of the demand file's bytes, in which no record is bad, and there are none
-- where no file is named
pub record HoldsDates (d : DraftPlant) (bytes : Option (List ℕ)) (dates : Option (Vec ℕ Global)) : Type 0 where
  pub given : is_some dates ≡ is_some (demands_file d)
  pub some : IfSome dates (λ read. 0 < vec_len read)
  pub limit : IfSome dates (λ read. All (λ date. date ≤ last_demand) read.items)
  pub held : option_map (λ (read : Vec ℕ Global). read.items) dates ≡ held_in (dates_of (demands_column d)) bytes
  pub good : bad_record_in (dates_of (demands_column d)) (demands_file d) bytes ≡ []

-- this is the table of the times file's bytes, in which no record is bad, and there is none where no column is used
pub record HoldsTimes (d : DraftPlant) (bytes : Option (List ℕ)) (table : Option JobTimes) : Type 0 where
  pub given : is_some table ≡ is_some d.times_file
  pub columns : IfSome table (λ t. t.columns ≡ columns_of d)
  pub held : table ≡ held_in (times_of (columns_of d)) bytes
  pub good : bad_record_in (times_of (columns_of d)) d.times_file bytes ≡ []
