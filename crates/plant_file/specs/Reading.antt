-- What a plant file says: its draft, or the first of the refusals 1 to 9 of its bytes.
use Rattle.std.specs.Prelude.{◌≡◌, ◌≢◌, ℕ, if◌then◌else◌, List, [], ◌∷◌, map, Option, Some, None, option_map, Result, Ok, Err, MatchResult, codes, bytes_eq}
use Rattle.std.specs.List.{position, position_or_len}
use Rattle.std.specs.Option.{option_map_or}
use Rattle.std.specs.Str.{is_utf8}
use Rattle.line_base.specs.Limits.{most_cards, longest_time, last_column, last_demand, last_observed}
use Rattle.plant_model.specs.declared.error.PlantError.{PlantError}
use Rattle.plant_model.specs.declared.error.PlantError.TheVariants.{NotToml, NoMemory}
use Rattle.plant_model.specs.declared.plant.Policy.{Policy}
use Rattle.plant_model.specs.declared.plant.Policy.TheVariants.{Kanban, Conwip, BaseStock, Extended}
use Rattle.toml.specs.Data.{Data, table, get}
use Rattle.toml.specs.Parse.{parse_document}
use Rattle.plant_file.specs.declared.draft.DraftDemands.{DraftDemands}
use Rattle.plant_file.specs.declared.draft.DraftDemands.TheVariants.{Given, File}
use Rattle.plant_file.specs.declared.draft.DraftTimes.{DraftTimes}
use Rattle.plant_file.specs.declared.draft.DraftTimes.TheVariants.{Column, Fixed, Each}
use Rattle.plant_file.specs.Draft.{DraftMachine, DraftStage}
use Rattle.plant_file.specs.declared.draft.DraftLoop.{DraftLoop}
use Rattle.plant_file.specs.declared.draft.DraftPlant.{DraftPlant}
use Rattle.plant_file.specs.declared.reading.TreeReading.{TreeReading}
use Rattle.plant_file.specs.declared.reading.TreeReading.TheVariants.{Draft, Faults}
use Rattle.plant_keys.specs.Readers.{has, text_of, text_at, tables_at, number_at, numbers_at, name_in, stage_names}
use Rattle.plant_keys.specs.Keys.{policy_word, has_column}
use Rattle.plant_keys.specs.Faults.{errors}
use Rattle.plant_keys.specs.Found.{AreFaults}
use Rattle.plant_keys.specs.Walk.{tree_faults}

-- a number of cards, of stock or of servers, and a length of time, at a key
abbrev pub count_at : ℕ → List ℕ → Data → ℕ
count_at default key d = number_at 0 most_cards default key d

abbrev pub time_at : List ℕ → Data → ℕ
time_at key d = number_at 0 longest_time 0 key d

-- the policy that the top names
abbrev pub policy_of : Data → Policy
policy_of top =
    if bytes_eq (policy_word top) (codes "kanban") then Kanban
    else if bytes_eq (policy_word top) (codes "conwip") then Conwip (count_at 0 (codes "cards") top)
    else if bytes_eq (policy_word top) (codes "base-stock") then BaseStock
    else Extended

-- the number of a column at a key, and that of the first where the key is absent
abbrev pub column_at : List ℕ → Data → ℕ
column_at key d = number_at 1 last_column 1 key d

-- where the demand dates stand
abbrev pub demands_of : Data → DraftDemands
demands_of top =
    if has (codes "demands") top then Given (numbers_at last_demand (codes "demands") top)
    else File (text_at (codes "demands_file") top) (column_at (codes "demands_column") top)

-- the times file, where a machine names a column of it
abbrev pub times_file_of : Data → Option (List ℕ)
times_file_of top = if has_column top then Some (text_at (codes "times_file") top) else None

-- where the job times of a machine stand
abbrev pub times_of : Data → DraftTimes
times_of m =
    if has (codes "column") m then Column (column_at (codes "column") m)
    else if has (codes "time") m then Fixed (time_at (codes "time") m)
    else Each (numbers_at longest_time (codes "times") m)

-- a machine
abbrev pub machine_of : Data → DraftMachine
machine_of m =
    record { name = name_in m; servers = count_at 1 (codes "servers") m; times = times_of m }

-- the number of the stage that a stage feeds, if it feeds any; the number after the last, where none has the name
abbrev pub feeds_of : List (List ℕ) → Data → Option ℕ
feeds_of names s = option_map (λ v. position_or_len (bytes_eq (text_of v)) names) (get (codes "feeds") s)

-- a stage of a file whose stages have these names
abbrev pub stage_of : List (List ℕ) → Data → DraftStage
stage_of names s =
    record {
      name = name_in s;
      feeds = feeds_of names s;
      cards = count_at 0 (codes "cards") s;
      stock = count_at 0 (codes "stock") s;
      travel = time_at (codes "travel") s;
      card_time = time_at (codes "card_time") s;
      machines = map machine_of (tables_at (codes "machine") s);
    }

-- a loop of a file whose stages have these names
abbrev pub loop_of : List (List ℕ) → Data → DraftLoop
loop_of names l =
    record {
      first = position (bytes_eq (text_at (codes "from") l)) names;
      last = position (bytes_eq (text_at (codes "to") l)) names;
      cards = count_at 0 (codes "cards") l;
      card_time = time_at (codes "card_time") l;
    }

-- what a tree says as a plant file
abbrev pub draft_of : Data → DraftPlant
draft_of top =
    record {
      policy = policy_of top;
      card_time = time_at (codes "card_time") top;
      demands = demands_of top;
      times_file = times_file_of top;
      observe = numbers_at last_observed (codes "observe") top;
      stages = map (stage_of (stage_names top)) (tables_at (codes "stage") top);
      loops = map (loop_of (stage_names top)) (tables_at (codes "loop") top);
    }

-- what a tree is refused for as a plant file: all that is wrong with it, in the order of the walk
abbrev pub tree_refusals : Data → List PlantError
tree_refusals top = errors (tree_faults top)

-- the draft where nothing is refused, and else the first refusal
abbrev pub draft_or_first : List PlantError → DraftPlant → Result DraftPlant PlantError
draft_or_first [] draft = Ok draft
draft_or_first (refusal ∷ _) draft = Err refusal

-- the tree of TOML that the bytes are, if they are UTF-8 and TOML
abbrev pub tree_of : List ℕ → Option Data
tree_of bytes = if is_utf8 bytes then option_map table (parse_document bytes) else None

-- the reading of a tree
abbrev pub tree_reading : Data → Result DraftPlant PlantError
tree_reading top = draft_or_first (tree_refusals top) (draft_of top)

-- the reading of the bytes of a plant file
unfoldable pub reading : List ℕ → Result DraftPlant PlantError
reading bytes = option_map_or tree_reading (tree_of bytes) (Err NotToml)

-- the answer is the reading; running out of memory may come instead
abbrev pub AnswersReading : Result DraftPlant PlantError → Result DraftPlant PlantError → Type 0
AnswersReading r read = MatchResult r (λ draft. read ≡ Ok draft) (λ e. e ≢ NoMemory → read ≡ Err e)

-- A tree in which nothing is wrong is the draft, and of any other the faults are listed.
abbrev pub IsReadingOf : Data → TreeReading → Type 0
IsReadingOf top (Draft draft) = (tree_faults top ≡ []) × (draft ≡ draft_of top)
IsReadingOf top (Faults list) = (tree_faults top ≢ []) × AreFaults list (tree_faults top)
