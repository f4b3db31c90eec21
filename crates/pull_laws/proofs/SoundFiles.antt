-- The plant of files is sound.
use Rattle.std.proofs.Common.{◌≡◌, ℕ, ◌<◌, ◌≤◌, ◌*◌, true, List, [], ◌∷◌, ◌++◌, length, refl, ap, ◌∙◌, subst, arith}
use Rattle.std.specs.Prelude.{Option, Some, None, Result, Ok, Err, IfSome, All, is_some}
use Rattle.std.specs.List.{AllByRecursion, concat}
use Rattle.std.specs.Result.{result_ok}
use Rattle.std.proofs.lemmas.List.Elements.{All-cons, All-nil}
use Rattle.line_base.specs.declared.limits.TheConstants.{MAX_TIME, MAX_DEMAND_DATE}
use Rattle.demand_feed.specs.Dates.{date_columns, joined_dates, dates_of}
use Rattle.demand_feed.specs.Records.{records_of}
use Rattle.demand_feed.specs.Rows.{FeedResult, rows_of}
use Rattle.demand_feed.specs.Times.{under_columns, times_of}
use Rattle.demand_feed.proofs.GoodRows.{IsRow, rows_of-rows, length-concat-rows, All-concat-rows}
use Rattle.plant_model.specs.declared.error.PlantError.{PlantError}
use Rattle.plant_model.specs.declared.plant.Plant.{Plant}
use Rattle.plant_model.specs.Refusals.{parts_refusals, whole_refusals, refusals}
use Rattle.plant_model.specs.Sound.{IsSound}
use Rattle.plant_model.proofs.NoRefusals.{append-nil_left, append-nil_right}
use Rattle.plant_keys.specs.Readers.{is_filled}
use Rattle.plant_file.specs.declared.draft.DraftDemands.{DraftDemands}
use Rattle.plant_file.specs.declared.draft.DraftDemands.TheVariants.{Given, File}
use Rattle.plant_file.specs.declared.draft.DraftPlant.{DraftPlant}
use Rattle.plant_file.specs.Draft.{IsSoundDraft, file_of, date_column_of, demands_file, demands_column, columns_of}
use Rattle.plant_file.specs.Reading.{reading}
use Rattle.plant_file.specs.Finish.{IsWithinLimit, bad_record, bad_record_in, bad_records, held_in, plant_of_bytes}
use Rattle.plant_file.specs.Finish.{plant_or_first, completed_plant}
use Rattle.plant_file.specs.PlantOfFiles.{Contents, bytes_at, bytes_of, plant_of_reading, plant_of}
use Rattle.plant_file.proofs.PlantParts.{AreDates, parts-none}

-- the dates of a demand file in which no record is bad
filled_from : (xs : List ℕ) → 0 < length xs → is_filled xs ≡ true
filled_from [] h = absurd (omega arith)
filled_from (x ∷ xs) h = refl

joined_good : (held : FeedResult (List (List ℕ))) →
    ((rows : List (List ℕ)) → held ≡ Ok rows → AllByRecursion (IsRow 1 MAX_DEMAND_DATE) rows) → (ds : List ℕ) →
    joined_dates held ≡ Ok ds → (is_filled ds ≡ true) × All (λ date. date ≤ MAX_DEMAND_DATE) ds
joined_good (Ok []) good ds is = absurd (cc)
joined_good (Ok (row ∷ rows)) good ds is =
    let all = good (row ∷ rows) refl in
    let same : concat (row ∷ rows) ≡ ds = cc in
    let size : length (concat (row ∷ rows)) ≡ length (row ∷ rows) * 1 =
    length-concat-rows 1 MAX_DEMAND_DATE (row ∷ rows) all in
    subst (λ (v : List ℕ). (is_filled v ≡ true) × All (λ date. date ≤ MAX_DEMAND_DATE) v) same
    (filled_from (concat (row ∷ rows)) (omega (arith, size)), All-concat-rows 1 MAX_DEMAND_DATE (row ∷ rows) all)
joined_good (Err place) good ds is = absurd (cc)

dates_good : (column : ℕ) (bytes ds : List ℕ) → dates_of column bytes ≡ Ok ds →
    (is_filled ds ≡ true) × All (λ date. date ≤ MAX_DEMAND_DATE) ds
dates_good column bytes ds is =
    joined_good (rows_of (date_columns column) MAX_DEMAND_DATE (records_of bytes))
    (λ rows known. (rows_of-rows (date_columns column) MAX_DEMAND_DATE (records_of bytes) rows known).0) ds is

-- what is held where no record is bad
is_held : {A : Type 0} (file : List ℕ) (held : FeedResult A) → bad_record file held ≡ [] → is_some (result_ok held) ≡ true
is_held file (Ok a) none = refl
is_held file (Err number) none = absurd (cc)

of_file : (file : List ℕ) (column : ℕ) (bytes : List ℕ) (held : FeedResult (List ℕ)) → dates_of column bytes ≡ held →
    bad_record file held ≡ [] → AreDates (File file column) (result_ok held)
of_file file column bytes (Ok ds) is none =
    let good = dates_good column bytes ds is in
    record { given = refl; filled = good.0; limit = good.1 }
of_file file column bytes (Err number) is none = absurd (cc)

-- the dates of a draft, where no record of its demand file is bad
dates_are : (files : Contents) (demands : DraftDemands) →
    bad_record_in (dates_of (date_column_of demands)) (file_of demands) (bytes_of files (file_of demands)) ≡ [] →
    AreDates demands (held_in (dates_of (date_column_of demands)) (bytes_of files (file_of demands)))
dates_are files (Given dates) none = record { given = refl; filled = tt; limit = tt }
dates_are files (File name column) none =
    of_file name column (bytes_at files name) (dates_of column (bytes_at files name)) refl none

-- the times of a times file in which no record is bad
rows_within : (width most : ℕ) (rows : List (List ℕ)) → AllByRecursion (IsRow width most) rows →
    All (λ row. All (λ time. time ≤ most) row) rows
rows_within width most [] good = All-nil (λ row. All (λ time. time ≤ most) row)
rows_within width most (row ∷ rows) good =
    All-cons (λ row. All (λ time. time ≤ most) row) row rows good.0.limit (rows_within width most rows good.1)

times_within : (columns : List ℕ) (held : FeedResult (List (List ℕ))) →
    ((rows : List (List ℕ)) → held ≡ Ok rows → All (λ row. All (λ time. time ≤ MAX_TIME) row) rows) →
    IfSome (result_ok (under_columns columns held)) IsWithinLimit
times_within columns (Ok rows) good = good rows refl
times_within columns (Err place) good = tt

times_are : (columns : List ℕ) (bytes : Option (List ℕ)) → IfSome (held_in (times_of columns) bytes) IsWithinLimit
times_are columns None = tt
times_are columns (Some bytes) =
    times_within columns (rows_of columns MAX_TIME (records_of bytes))
    (λ rows known. rows_within (length columns) MAX_TIME rows
    (rows_of-rows columns MAX_TIME (records_of bytes) rows known).0)

-- so nothing is refused of the plant of a sound draft, where nothing is refused of its files and of the whole
whole_sound : (p : Plant) → parts_refusals p ≡ [] → whole_refusals p ≡ [] → IsSound p
unfolding refusals
whole_sound p parts whole = record { nothing = ap (λ (rs : List PlantError). rs ++ whole_refusals p) parts ∙ whole }

answered : (rs : List PlantError) (made p : Plant) → (rs ≡ [] → IsSound made) → plant_or_first rs made ≡ Ok p →
    IsSound p
answered [] made p sound is = let same : made ≡ p = cc in subst IsSound same (sound refl)
answered (r ∷ rs) made p sound is = absurd (cc)

completed_sound : (files : Contents) (d : DraftPlant) → IsSoundDraft d → (p : Plant) →
    completed_plant d (bytes_of files (demands_file d)) (bytes_of files d.times_file) ≡ Ok p → IsSound p
completed_sound files d sound p is =
    let demands = bytes_of files (demands_file d) in
    let times = bytes_of files d.times_file in
    let made = plant_of_bytes d demands times in
    answered (bad_records d demands times ++ whole_refusals made) made p
    (λ none. whole_sound made
    (parts-none d (held_in (dates_of (demands_column d)) demands) (held_in (times_of (columns_of d)) times) sound
    (dates_are files d.demands (append-nil_left (bad_record_in (dates_of (demands_column d)) (demands_file d) demands) _
    (append-nil_left (bad_records d demands times) _ none)))
    (times_are (columns_of d) times))
    (append-nil_right (bad_records d demands times) _ none))
    is

of_reading : (files : Contents) (r : Result DraftPlant PlantError) → ((d : DraftPlant) → r ≡ Ok d → IsSoundDraft d) →
    (p : Plant) → plant_of_reading files r ≡ Ok p → IsSound p
of_reading files (Ok d) sound p is = completed_sound files d (sound d refl) p is
of_reading files (Err refusal) sound p is = absurd (cc)

-- the plant of files is sound, where the draft that was read is
pub plant_of-sound : (name : List ℕ) (files : Contents) (p : Plant) →
    ((d : DraftPlant) → reading (bytes_at files name) ≡ Ok d → IsSoundDraft d) → plant_of name files ≡ Ok p → IsSound p
unfolding plant_of
plant_of-sound name files p sound is = of_reading files (reading (bytes_at files name)) sound p is
