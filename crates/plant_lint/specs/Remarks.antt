-- What lint says behind the text of a refusal beside what is wanted there.
use Rattle.std.specs.Prelude.{ℕ, if◌then◌else◌, List, [], ◌++◌, codes, bytes_eq}
use Rattle.plant_model.specs.declared.error.PlantError.{PlantError}
use Rattle.plant_model.specs.declared.error.PlantError.TheVariants.{NotToml, UnknownKey, Missing, WrongType, BadName, NameTwice, OutOfRange, FeedsNotLater, TwoFinals, BadRecord, TimesCount, DemandOrder, TooFewCards, LoopNotDownstream, TooLarge, NoMemory}
use Rattle.plant_model.specs.declared.plant.Plant.{Plant}
use Rattle.toml.specs.Data.{Data}
use Rattle.plant_keys.specs.Readers.{tables_at}
use Rattle.plant_lint.specs.Labels.{file_label, plant_label}
use Rattle.plant_lint.specs.Paths.{table_of}

-- what is said behind a refusal
abbrev pub Remark : Type 0
Remark = PlantError → List ℕ

-- the path that a refusal names, empty where it names none
abbrev pub place_in : PlantError → List ℕ
place_in NotToml = []
place_in (UnknownKey place) = place
place_in (Missing place) = place
place_in (WrongType place) = place
place_in (BadName place) = place
place_in (NameTwice place) = place
place_in (OutOfRange place) = place
place_in (FeedsNotLater place) = place
place_in (TwoFinals place) = place
place_in (BadRecord file number) = []
place_in (TimesCount place have need) = place
place_in (DemandOrder job) = []
place_in (TooFewCards place cards stock) = place
place_in (LoopNotDownstream place) = place
place_in (TooLarge what) = []
place_in NoMemory = []

-- nothing
abbrev pub no_remark : Remark
no_remark error = []

-- of the key that is missing at a path: at the top these are the cards of CONWIP, and not those of a stage
abbrev pub missing_remark : List ℕ → List ℕ
missing_remark place =
    if bytes_eq place (codes "cards") then codes ", the plant's own, above the first [[stage]]" else []

-- of a key
abbrev pub key_remark : Remark
key_remark NotToml = []
key_remark (UnknownKey place) = []
key_remark (Missing place) = missing_remark place
key_remark (WrongType place) = []
key_remark (BadName place) = []
key_remark (NameTwice place) = []
key_remark (OutOfRange place) = []
key_remark (FeedsNotLater place) = []
key_remark (TwoFinals place) = []
key_remark (BadRecord file number) = []
key_remark (TimesCount place have need) = []
key_remark (DemandOrder job) = []
key_remark (TooFewCards place cards stock) = []
key_remark (LoopNotDownstream place) = []
key_remark (TooLarge what) = []
key_remark NoMemory = []

-- of a plant file: the names of the table in which the path stands, and then what is said of the key
abbrev pub file_remark : Data → Remark
file_remark top error =
    file_label (tables_at (codes "stage") top) (table_of (place_in error)) ++ key_remark error

-- of a plant: the names of the table in which the path stands
abbrev pub plant_remark : Plant → Remark
plant_remark p error = plant_label p (table_of (place_in error))
