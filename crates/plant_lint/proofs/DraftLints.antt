-- What lint says of a draft: the refusals of its faults, and that nothing is wrong where it says so.
use Rattle.std.proofs.Common.{◌≡◌, ℕ, List, [], ◌∷◌, Option, None, Some, refl, ap, subst, ◌∙◌}
use Rattle.std.specs.Prelude.{unwrap_or, Result, Ok, Err, IfOk}
use Rattle.std.specs.Option.{option_map_or}
use Rattle.std.proofs.lemmas.List.{map-append}
use Rattle.plant_file.specs.declared.draft.DraftPlant.{DraftPlant}
use Rattle.plant_file.specs.Draft.{demands_file, demands_column, columns_of}
use Rattle.plant_file.specs.Finish.{bad_record, bad_record_in, bad_records, held_in, plant_of_bytes, plant_with}
use Rattle.plant_model.specs.declared.plant.Plant.{Plant}
use Rattle.plant_model.specs.declared.error.PlantError.{PlantError}
use Rattle.demand_feed.specs.Dates.{dates_of}
use Rattle.demand_feed.specs.JobTimes.{JobTimes}
use Rattle.demand_feed.specs.Times.{times_of}
use Rattle.plant_lint.specs.declared.draft_lint.DraftLint.{DraftLint}
use Rattle.plant_lint.specs.declared.draft_lint.DraftLint.TheVariants as draft
use Rattle.plant_keys.specs.declared.fault.Fault.{Fault}
use Rattle.plant_keys.specs.declared.fault.Wants.{Wants}
use Rattle.plant_lint.specs.declared.lint.Lint.{Lint}
use Rattle.plant_lint.specs.declared.lint.Lint.TheVariants.{Refused, Sound}
use Rattle.plant_lint.specs.DraftLints.{faults_or, LintsDraft, LintsWhole}
use Rattle.plant_lint.specs.FileLints.{faults_or_notes}
use Rattle.plant_keys.specs.Faults.{errors, wanting, plain}
use Rattle.plant_lint.specs.Records.{dates_faults, times_faults, demand_faults, time_faults, record_faults}
use Rattle.plant_lint.specs.Remarks.{Remark, no_remark}
use Rattle.plant_lint.specs.Texts.{fault_lines}

-- refusals, beside what is wanted and again without it
errors-wanting : (what : Wants) (rs : List PlantError) → errors (wanting what rs) ≡ rs
errors-wanting what [] = refl
errors-wanting what (r ∷ rs) = ap (λ rest. r ∷ rest) (errors-wanting what rs)

of_dates : (name : Option (List ℕ)) (column : ℕ) (bytes : Option (List ℕ)) → errors (option_map_or (dates_faults name column) bytes []) ≡ bad_record_in (dates_of column) name bytes
of_dates name column None = refl
of_dates name column (Some bytes) = errors-wanting _ (bad_record (unwrap_or name []) (dates_of column bytes))

of_times : (name : Option (List ℕ)) (columns : List ℕ) (bytes : Option (List ℕ)) → errors (option_map_or (times_faults name columns) bytes []) ≡ bad_record_in (times_of columns) name bytes
of_times name columns None = refl
of_times name columns (Some bytes) = errors-wanting _ (bad_record (unwrap_or name []) (times_of columns bytes))

pub errors-records : (d : DraftPlant) (demands times : Option (List ℕ)) → errors (record_faults d demands times) ≡ bad_records d demands times
errors-records d demands times =
    map-append (λ (f : Fault). f.error) (option_map_or (dates_faults (demands_file d) (demands_column d)) demands []) (option_map_or (times_faults d.times_file (columns_of d)) times [])
    ∙ rw (of_dates (demands_file d) (demands_column d) demands, of_times d.times_file (columns_of d) times) refl

-- a plant that lint finds nothing wrong with
pub none_refused : (remark : Remark) (rs : List PlantError) (notes more : List ℕ) → faults_or_notes remark (plain rs) notes ≡ Sound more → rs ≡ []
none_refused remark [] notes more h = refl
none_refused remark (r ∷ rs) notes more h = absurd (cc h)

-- a file whose records can be used has none that is wrong
pub good_dates : (d : DraftPlant) (bytes : Option (List ℕ)) → bad_record_in (dates_of (demands_column d)) (demands_file d) bytes ≡ [] → demand_faults d bytes ≡ []
good_dates d None h = refl
good_dates d (Some bytes) h = ap (wanting _) h

pub good_times : (d : DraftPlant) (bytes : Option (List ℕ)) → bad_record_in (times_of (columns_of d)) d.times_file bytes ≡ [] → time_faults d bytes ≡ []
good_times d None h = refl
good_times d (Some bytes) h = ap (wanting _) h

-- what is said of a plant is said of an equal one
pub lints_of : {E : Type 0} (file same : Option (List ℕ)) (p q : Plant) (r : Result DraftLint E) → file ≡ same → p ≡ q → IfOk r (LintsWhole file p) → IfOk r (LintsWhole same q)
lints_of file same p q r named are is = rw (← named, ← are) is

-- a draft with bad records
pub bad_lints : {E : Type 0} (d : DraftPlant) (demands times : Option (List ℕ)) (r : Result DraftLint E) → (record_faults d demands times ≡ [] → ⊥) → IfOk r (λ lint. lint ≡ draft.Refused (fault_lines no_remark (record_faults d demands times))) → IfOk r (LintsDraft d demands times)
bad_lints d demands times (Err e) some is = tt
bad_lints d demands times (Ok lint) some is = rw is (by_faults (record_faults d demands times) _ some)
  where
    by_faults : (faults : List Fault) (more : Lint) → (faults ≡ [] → ⊥) → faults_or faults more ≡ Refused (fault_lines no_remark faults)
    by_faults [] more some = absurd (some refl)
    by_faults (fault ∷ faults) more some = refl

-- and one without
pub whole_lints : {E : Type 0} (d : DraftPlant) (demands times : Option (List ℕ)) (r : Result DraftLint E) (dates : Option (List ℕ)) (table : Option JobTimes) → dates ≡ held_in (dates_of (demands_column d)) demands → table ≡ held_in (times_of (columns_of d)) times → record_faults d demands times ≡ [] → IfOk r (LintsWhole (demands_file d) (plant_with d dates table)) → IfOk r (LintsDraft d demands times)
whole_lints d demands times r dates table dates_are table_is good is =
    none_bad d demands times r good
    (subst (λ p. IfOk r (LintsWhole (demands_file d) p)) (rw (dates_are, table_is) refl) is)
  where
    none_bad : {E : Type 0} (d : DraftPlant) (demands times : Option (List ℕ)) (r : Result DraftLint E) → record_faults d demands times ≡ [] → IfOk r (LintsWhole (demands_file d) (plant_of_bytes d demands times)) → IfOk r (LintsDraft d demands times)
    none_bad d demands times (Err e) good is = tt
    none_bad d demands times (Ok (draft.Refused lines)) good is = rw good is
    none_bad d demands times (Ok (draft.Sound plant notes)) good is = rw good is
