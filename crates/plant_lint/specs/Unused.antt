-- The keys of a plant file that its policy doesn't use, as lines of notes, in the order of the walk.
use Rattle.std.specs.Prelude.{ℕ, Bool, not, ◌&&◌, if◌then◌else◌, List, [], ◌++◌, codes, bytes_eq}
use Rattle.plant_model.specs.declared.place.FileTable.{FileTable}
use Rattle.plant_model.specs.declared.place.FileTable.TheVariants.{Top, InStage}
use Rattle.plant_model.specs.Place.{key_of}
use Rattle.toml.specs.Data.{Data}
use Rattle.plant_keys.specs.Keys.{policy_word, has_stage_cards, has_line_cards, has_column}
use Rattle.plant_keys.specs.Readers.{has, tables_at}
use Rattle.plant_keys.specs.Faults.{all_of}

-- the note of a key that is there and not used
abbrev pub unused_line : List ℕ → List ℕ
unused_line place = codes "note: " ++ (place ++ codes " is not used\n")

-- of a key, where the test gives true
abbrev pub unused_if : Bool → FileTable → List ℕ → Data → List ℕ
unused_if idle table key d = if idle && has key d then unused_line (key_of table key) else []

-- of the top: the cards of the line but under CONWIP, and a times file that no machine uses
abbrev pub unused_at_top : Data → List ℕ
unused_at_top top =
    unused_if (not (has_line_cards top)) Top (codes "card_time") top
    ++ (unused_if (not (has_line_cards top)) Top (codes "cards") top
    ++ unused_if (not (has_column top)) Top (codes "times_file") top)

-- of stage i: its cards where the policy gives it none, and its stock under kanban
abbrev pub unused_in_stage : Bool → Bool → ℕ → Data → List ℕ
unused_in_stage with_cards without_stock i s =
    unused_if (not with_cards) (InStage i) (codes "card_time") s
    ++ (unused_if (not with_cards) (InStage i) (codes "cards") s
    ++ unused_if without_stock (InStage i) (codes "stock") s)

-- the policy is kanban, under which a stage starts with its cards
abbrev pub is_kanban : Data → Bool
is_kanban top = bytes_eq (policy_word top) (codes "kanban")

-- of a plant file
unfoldable pub unused_lines : Data → List ℕ
unused_lines top =
    unused_at_top top
    ++ all_of (unused_in_stage (has_stage_cards top) (is_kanban top)) (tables_at (codes "stage") top)
