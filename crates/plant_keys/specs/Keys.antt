-- The keys of the tables of a plant file: for each table its keys in byte order, each with what stands there, whether
-- it has to be there, and whether it is excluded: by another key of the table, or as one that it needs is absent.
use Rattle.std.specs.Prelude.{ℕ, Bool, true, false, not, ◌&&◌, ◌||◌, List, [], ◌∷◌, codes, bytes_eq}
use Rattle.std.specs.List.{list_any}
use Rattle.line_base.specs.Limits.{most_cards, longest_time, last_column, last_demand, last_observed}
use Rattle.toml.specs.Data.{Data}
use Rattle.plant_keys.specs.declared.keys.Kind.{Kind}
use Rattle.plant_keys.specs.declared.keys.Kind.TheVariants.{PolicyWord, StageName, MachineName, FileName, StageReference, Number, Numbers, Tables}
use Rattle.plant_keys.specs.Readers.{has, text_at, tables_at}

-- a key of a table
pub record Key : Type 0 where
  pub name : List ℕ
  pub kind : Kind
  pub required : Bool
  pub excluded : Bool

-- a key that may be absent
abbrev pub optional : List ℕ → Kind → Key
optional name kind = record { name = name; kind = kind; required = false; excluded = false }

-- a key that has to be there where the test gives true
abbrev pub required_if : Bool → List ℕ → Kind → Key
required_if test name kind = record { name = name; kind = kind; required = test; excluded = false }

-- a key that has to be there
abbrev pub required_key : List ℕ → Kind → Key
required_key = required_if true

-- a key that has to be there where the first test gives true, and may not be where the second does
abbrev pub choice : Bool → Bool → List ℕ → Kind → Key
choice needed barred name kind = record { name = name; kind = kind; required = needed; excluded = barred }

-- a number of cards, of stock or of servers; a length of time
abbrev pub count : Kind
count = Number 0 most_cards

abbrev pub time : Kind
time = Number 0 longest_time

-- the word for the policy
abbrev pub policy_word : Data → List ℕ
policy_word top = text_at (codes "policy") top

-- the policy gives each stage cards of its own
abbrev pub has_stage_cards : Data → Bool
has_stage_cards top = bytes_eq (policy_word top) (codes "kanban") || bytes_eq (policy_word top) (codes "extended")

-- the policy gives the line cards
abbrev pub has_line_cards : Data → Bool
has_line_cards top = bytes_eq (policy_word top) (codes "conwip")

-- a machine of a stage names a column
abbrev pub stage_has_column : Data → Bool
stage_has_column s = list_any (has (codes "column")) (tables_at (codes "machine") s)

-- a machine names a column
abbrev pub has_column : Data → Bool
has_column top = list_any stage_has_column (tables_at (codes "stage") top)

-- the number of a column of a csv file
abbrev pub column : Kind
column = Number 1 last_column

-- the keys at the top, of which `demands_column` is known only beside `demands_file`
abbrev pub top_keys : Data → List Key
top_keys top =
    optional (codes "card_time") time
    ∷ required_if (has_line_cards top) (codes "cards") count
    ∷ required_if (not (has (codes "demands_file") top)) (codes "demands") (Numbers last_demand false)
    ∷ choice false (not (has (codes "demands_file") top)) (codes "demands_column") column
    ∷ choice false (has (codes "demands") top) (codes "demands_file") FileName
    ∷ optional (codes "loop") (Tables true)
    ∷ optional (codes "observe") (Numbers last_observed true)
    ∷ required_key (codes "policy") PolicyWord
    ∷ required_key (codes "stage") (Tables false)
    ∷ required_if (has_column top) (codes "times_file") FileName
    ∷ []

-- the keys of a stage, where the policy gives each stage cards or doesn't
abbrev pub stage_keys : Bool → List Key
stage_keys with_cards =
    optional (codes "card_time") time
    ∷ required_if with_cards (codes "cards") count
    ∷ optional (codes "feeds") StageReference
    ∷ required_key (codes "machine") (Tables false)
    ∷ required_key (codes "name") StageName
    ∷ optional (codes "stock") count
    ∷ optional (codes "travel") time
    ∷ []

-- the keys of a machine, of which `column`, `time` and `times` are a choice: the first stays, and of none `time` is
-- missing
abbrev pub machine_keys : Data → List Key
machine_keys m =
    optional (codes "column") column
    ∷ required_key (codes "name") MachineName
    ∷ optional (codes "servers") count
    ∷ choice
    (not (has (codes "column") m || has (codes "times") m))
    (has (codes "column") m)
    (codes "time")
    time
    ∷ choice
    false
    (has (codes "column") m || has (codes "time") m)
    (codes "times")
    (Numbers longest_time true)
    ∷ []

-- the keys of a loop
abbrev pub loop_keys : List Key
loop_keys =
    optional (codes "card_time") time
    ∷ required_key (codes "cards") count
    ∷ required_key (codes "from") StageReference
    ∷ required_key (codes "to") StageReference
    ∷ []

-- the key is one of these, and none that is excluded
abbrev pub is_allowed : List Key → List ℕ → Bool
is_allowed keys name = list_any (λ k. bytes_eq k.name name && not k.excluded) keys
