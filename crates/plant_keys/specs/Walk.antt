-- The walk: all that is wrong with the tree of a plant file, the refusals of the classes 2 to 9, each beside what is
-- wanted there. Each class goes over the whole tree before the next, in one order: the keys of the top table, then each
-- stage with its keys and after them its machines, then each loop. Within a table the keys stand in byte order, a key
-- that is missing among them, and the elements of a list right after its key.
use Rattle.std.specs.Prelude.{ℕ, ◌+◌, Bool, not, ◌&&◌, nat_lt, if◌then◌else◌, List, [], ◌++◌, length, take, codes, bytes_eq}
use Rattle.std.specs.List.{list_any}
use Rattle.std.specs.Option.{option_map_or}
use Rattle.plant_model.specs.declared.place.FileTable.{FileTable}
use Rattle.plant_model.specs.declared.place.FileTable.TheVariants.{Top, InStage, InMachine, InLoop}
use Rattle.plant_model.specs.declared.error.PlantError.TheVariants.{NameTwice, FeedsNotLater, TwoFinals}
use Rattle.plant_model.specs.Place.{place_of, key_of}
use Rattle.plant_model.specs.Refusals.{refuse_if}
use Rattle.toml.specs.Data.{Data, get}
use Rattle.plant_keys.specs.declared.keys.Kind.{Kind}
use Rattle.plant_keys.specs.declared.keys.Class.{Class}
use Rattle.plant_keys.specs.declared.keys.Class.TheVariants.{UnknownKeys, MissingKeys, WrongTypes, BadNames, OutOfRanges}
use Rattle.plant_keys.specs.Keys.{Key, has_stage_cards, top_keys, stage_keys, machine_keys, loop_keys}
use Rattle.plant_keys.specs.Readers.{has, members_in, tables_at, text_of, is_filled, stage_names}
use Rattle.plant_keys.specs.Rules.{shown_key, unknown_keys, value_refusals, absence_refusals, names_twice}
use Rattle.plant_keys.specs.declared.fault.Wants.TheVariants as wants
use Rattle.plant_keys.specs.declared.fault.Fault.{Fault}
use Rattle.plant_keys.specs.Faults.{wanting, plain, all_of, wants_of}

-- of what stands at a key
abbrev pub value_faults : Class → Kind → List ℕ → Data → List Fault
value_faults class kind place v = wanting (wants_of class kind v) (value_refusals class kind place v)

-- of a key of a table
abbrev pub key_faults : Class → FileTable → Data → Key → List Fault
key_faults class table d key =
    option_map_or
    (value_faults class key.kind (key_of table key.name))
    (get key.name d)
    (plain (absence_refusals class key.required (key_of table key.name)))

-- of the keys of a table
abbrev pub keys_faults : Class → FileTable → Data → List Key → List Fault
keys_faults class table d keys = all_of (λ _ key. key_faults class table d key) keys

-- of a table
abbrev pub table_faults : Class → FileTable → Data → List Key → List Fault
table_faults UnknownKeys table d keys = plain (unknown_keys table keys (members_in d))
table_faults MissingKeys table d keys = keys_faults MissingKeys table d keys
table_faults WrongTypes table d keys = keys_faults WrongTypes table d keys
table_faults BadNames table d keys = keys_faults BadNames table d keys
table_faults OutOfRanges table d keys = keys_faults OutOfRanges table d keys

-- of machine j of stage i
abbrev pub machine_faults : Class → ℕ → ℕ → Data → List Fault
machine_faults class i j m = table_faults class (InMachine i j) m (machine_keys m)

-- of stage i: its keys, then its machines
abbrev pub stage_faults : Class → Bool → ℕ → Data → List Fault
stage_faults class with_cards i s =
    table_faults class (InStage i) s (stage_keys with_cards)
    ++ all_of (machine_faults class i) (tables_at (codes "machine") s)

-- of loop k
abbrev pub loop_faults : Class → ℕ → Data → List Fault
loop_faults class k l = table_faults class (InLoop k) l loop_keys

-- all that a class refuses of a plant file
unfoldable pub walk_faults : Class → Data → List Fault
walk_faults class top =
    table_faults class Top top (top_keys top)
    ++ (all_of (stage_faults class (has_stage_cards top)) (tables_at (codes "stage") top)
    ++ all_of (loop_faults class) (tables_at (codes "loop") top))

-- 6, of the name of a table, which is new or isn't
abbrev pub name_faults : FileTable → Bool → List Fault
name_faults table is_new = plain (refuse_if (not is_new) (NameTwice (key_of table (codes "name"))))

-- a later stage than stage i has the name, and none up to that one
abbrev pub is_later : List (List ℕ) → ℕ → List ℕ → Bool
is_later names i name = list_any (bytes_eq name) names && not (list_any (bytes_eq name) (take (i + 1) names))

-- the text in place of a name, as lines show it: one that is empty or has another character than a key is a question
-- mark
abbrev pub shown_name : List ℕ → List ℕ
shown_name text = if is_filled text then shown_key text else codes "?"

-- 8, of the name that stands at `feeds` of stage i, which is that of a later stage or isn't
abbrev pub fed_fault : Bool → ℕ → List ℕ → List Fault
fed_fault later i name =
    wanting
    (wants.LaterThan (shown_name name))
    (refuse_if (not later) (FeedsNotLater (key_of (InStage i) (codes "feeds"))))

-- the same, where all stages have these names
abbrev pub fed_faults : List (List ℕ) → ℕ → List ℕ → List Fault
fed_faults names i name = fed_fault (is_later names i name) i name

-- 8, of stage i
abbrev pub feeds_faults : List (List ℕ) → ℕ → Data → List Fault
feeds_faults names i s = option_map_or (λ v. fed_faults names i (text_of v)) (get (codes "feeds") s) []

-- 9, of stage i, where there are `count` stages
abbrev pub final_faults : ℕ → ℕ → Data → List Fault
final_faults count i s =
    plain (refuse_if (not (has (codes "feeds") s) && nat_lt (i + 1) count) (TwoFinals (place_of (InStage i))))

-- the classes 7 to 9
abbrev pub last_faults : Data → List Fault
last_faults top =
    walk_faults OutOfRanges top
    ++ (all_of (feeds_faults (stage_names top)) (tables_at (codes "stage") top)
    ++ all_of (final_faults (length (tables_at (codes "stage") top))) (tables_at (codes "stage") top))

-- the classes 2 to 5
abbrev pub first_faults : Data → List Fault
first_faults top =
    walk_faults UnknownKeys top
    ++ (walk_faults MissingKeys top ++ (walk_faults WrongTypes top ++ walk_faults BadNames top))

-- the classes 2 to 9, each over the whole tree before the next
unfoldable pub tree_faults : Data → List Fault
tree_faults top = first_faults top ++ (plain (names_twice top) ++ last_faults top)
