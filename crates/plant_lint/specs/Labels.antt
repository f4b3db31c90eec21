-- The names that stand behind a path: those of the stage and of the machine in whose table it stands, as labels name
-- them, each as far as it is a name.
use Rattle.std.specs.Prelude.{ℕ, if◌then◌else◌, List, [], ◌∷◌, ◌++◌, codes, slice_get}
use Rattle.std.specs.Option.{option_map_or}
use Rattle.line_base.specs.Text.{is_name}
use Rattle.plant_model.specs.declared.place.FileTable.{FileTable}
use Rattle.plant_model.specs.declared.place.FileTable.TheVariants.{Top, InStage, InMachine, InLoop}
use Rattle.plant_model.specs.declared.plant.Plant.{Plant}
use Rattle.plant_model.specs.Line.{machine_at, stage_at}
use Rattle.toml.specs.Data.{Data}
use Rattle.plant_keys.specs.Readers.{name_in, tables_at}

-- the name of a machine behind that of its stage
abbrev pub dotted : List ℕ → List ℕ
dotted [] = []
dotted (byte ∷ bytes) = codes "." ++ (byte ∷ bytes)

-- the names of a stage and of a machine in brackets; nothing where the stage has none
abbrev pub in_brackets : List ℕ → List ℕ → List ℕ
in_brackets [] machine = []
in_brackets (byte ∷ bytes) machine = codes " (" ++ ((byte ∷ bytes) ++ (dotted machine ++ codes ")"))

-- the name of a table, empty where it is none
abbrev pub known_name : Data → List ℕ
known_name d = if is_name (name_in d) then name_in d else []

-- the name of a row of a list of tables
abbrev pub row_name : List Data → ℕ → List ℕ
row_name rows n = option_map_or known_name (slice_get rows n) []

-- the machines of a row of a list of stages
abbrev pub row_machines : List Data → ℕ → List Data
row_machines rows n = option_map_or (tables_at (codes "machine")) (slice_get rows n) []

-- behind a path that stands in this table, where these are the stages of a plant file
abbrev pub file_label : List Data → FileTable → List ℕ
file_label stages Top = []
file_label stages (InStage i) = in_brackets (row_name stages i) []
file_label stages (InMachine i j) = in_brackets (row_name stages i) (row_name (row_machines stages i) j)
file_label stages (InLoop k) = []

-- the same of a plant
abbrev pub plant_label : Plant → FileTable → List ℕ
plant_label p Top = []
plant_label p (InStage i) = in_brackets (stage_at p i).name []
plant_label p (InMachine i j) = in_brackets (stage_at p i).name (machine_at p i j).name
plant_label p (InLoop k) = []
