-- What single keys, values and names are refused for, by class.
use Rattle.std.specs.Prelude.{ℕ, Bool, true, not, ◌&&◌, ◌||◌, ◌==◌, if◌then◌else◌, List, [], ◌++◌, map, take, codes, bytes_eq}
use Rattle.std.specs.List.{list_all, list_any}
use Rattle.std.specs.Option.{option_map_or}
use Rattle.line_base.specs.Text.{is_between, is_name, is_file_name}
use Rattle.plant_model.specs.declared.error.PlantError.{PlantError}
use Rattle.plant_model.specs.declared.error.PlantError.TheVariants.{UnknownKey, Missing, WrongType, BadName, NameTwice, OutOfRange}
use Rattle.plant_model.specs.declared.place.FileTable.{FileTable}
use Rattle.plant_model.specs.declared.place.FileTable.TheVariants.{Top, InStage, InMachine, InLoop}
use Rattle.plant_model.specs.Place.{at, key_of}
use Rattle.plant_model.specs.Refusals.{refuse_if, each, is_reserved}
use Rattle.toml.specs.Data.{Data, integer, Members, no_members, member, get}
use Rattle.plant_keys.specs.declared.keys.Kind.{Kind}
use Rattle.plant_keys.specs.declared.keys.Kind.TheVariants.{PolicyWord, StageName, MachineName, FileName, StageReference, Number, Numbers, Tables}
use Rattle.plant_keys.specs.declared.keys.Class.{Class}
use Rattle.plant_keys.specs.declared.keys.Class.TheVariants.{UnknownKeys, MissingKeys, WrongTypes, BadNames, OutOfRanges}
use Rattle.plant_keys.specs.Readers.{members_in, elements_of, is_text, is_number, is_table, is_list_of, text_of, tables_of, tables_at, is_within, name_in, stage_names, is_filled}
use Rattle.plant_keys.specs.Keys.{Key, has_stage_cards, top_keys, stage_keys, machine_keys, loop_keys, is_allowed}

-- A to Z, a to z, 0 to 9, `_` and `-`
abbrev pub is_plain : ℕ → Bool
is_plain byte =
    is_between 65 90 byte || (is_between 97 122 byte || (is_between 48 57 byte || (byte == 95 || byte == 45)))

-- a key as paths show it: one that has another character is a question mark
abbrev pub shown_key : List ℕ → List ℕ
shown_key key = if list_all is_plain key then key else codes "?"

-- 2, of a member of a table with these keys
abbrev pub unknown_key : FileTable → List Key → List ℕ → List PlantError
unknown_key table keys name = refuse_if (not (is_allowed keys name)) (UnknownKey (key_of table (shown_key name)))

-- 2, of all members of a table with these keys
abbrev pub unknown_keys : FileTable → List Key → Members → List PlantError
unknown_keys table keys no_members = []
unknown_keys table keys (member name value rest) = unknown_key table keys name ++ unknown_keys table keys rest

-- the value is of the kind
abbrev pub has_kind : Kind → Data → Bool
has_kind PolicyWord v = is_text v
has_kind StageName v = is_text v
has_kind MachineName v = is_text v
has_kind FileName v = is_text v
has_kind StageReference v = is_text v
has_kind (Number least most) v = is_number v
has_kind (Numbers most may_be_empty) v = is_list_of is_number v
has_kind (Tables may_be_empty) v = is_list_of is_table v

-- a text keeps the rule of what it names
abbrev pub keeps_name_rule : Kind → List ℕ → Bool
keeps_name_rule StageName text = is_name text && not (is_reserved text)
keeps_name_rule MachineName text = is_name text
keeps_name_rule FileName text = is_file_name text
keeps_name_rule PolicyWord text = true
keeps_name_rule StageReference text = true
keeps_name_rule (Number least most) text = true
keeps_name_rule (Numbers most may_be_empty) text = true
keeps_name_rule (Tables may_be_empty) text = true

-- one of the four words for a policy
abbrev pub is_policy : List ℕ → Bool
is_policy word =
    bytes_eq word (codes "kanban")
    || (bytes_eq word (codes "conwip") || (bytes_eq word (codes "base-stock") || bytes_eq word (codes "extended")))

-- 7, at a path, unless the test gives true
abbrev pub out_unless : Bool → List ℕ → List PlantError
out_unless test place = refuse_if (not test) (OutOfRange place)

-- a value, if it is a whole number, is one within limits
abbrev pub may_be_number : ℕ → ℕ → Data → Bool
may_be_number least most (integer z) = is_within least most z
may_be_number least most _ = true

-- 7, of element k of a list at a path
abbrev pub element_out : ℕ → List ℕ → ℕ → Data → List PlantError
element_out most place k v = out_unless (may_be_number 0 most v) (at place k)

-- 7, of a list of numbers at a path: that it is empty, then its elements
abbrev pub list_out : ℕ → Bool → List ℕ → List Data → List PlantError
list_out most may_be_empty place vs =
    out_unless (may_be_empty || is_filled vs) place ++ each (element_out most place) vs

-- 7, of a value of a kind at a path
abbrev pub out_of_range : Kind → List ℕ → Data → List PlantError
out_of_range PolicyWord place v = out_unless (is_policy (text_of v)) place
out_of_range StageName place v = []
out_of_range MachineName place v = []
out_of_range FileName place v = []
out_of_range StageReference place v = []
out_of_range (Number least most) place v = out_unless (may_be_number least most v) place
out_of_range (Numbers most may_be_empty) place v =
    list_out most may_be_empty place (elements_of v)
out_of_range (Tables may_be_empty) place v = out_unless (may_be_empty || is_filled (tables_of v)) place

-- 4, of a value at a path
abbrev pub refused_type : Kind → List ℕ → Data → List PlantError
refused_type kind place v = refuse_if (not (has_kind kind v)) (WrongType place)

-- 5, of a value at a path
abbrev pub refused_name : Kind → List ℕ → Data → List PlantError
refused_name kind place v = refuse_if (not (keeps_name_rule kind (text_of v))) (BadName place)

-- what a class refuses of the value at a key
abbrev pub value_refusals : Class → Kind → List ℕ → Data → List PlantError
value_refusals UnknownKeys kind place v = []
value_refusals MissingKeys kind place v = []
value_refusals WrongTypes kind place v = refused_type kind place v
value_refusals BadNames kind place v = refused_name kind place v
value_refusals OutOfRanges kind place v = out_of_range kind place v

-- what a class refuses of a key that isn't there
abbrev pub absence_refusals : Class → Bool → List ℕ → List PlantError
absence_refusals MissingKeys required place = refuse_if required (Missing place)
absence_refusals UnknownKeys required place = []
absence_refusals WrongTypes required place = []
absence_refusals BadNames required place = []
absence_refusals OutOfRanges required place = []

-- 6, of a name that comes after these
abbrev pub name_twice : FileTable → List (List ℕ) → List ℕ → List PlantError
name_twice table before name = refuse_if (list_any (bytes_eq name) before) (NameTwice (key_of table (codes "name")))

-- 6, of machine j of stage i, whose machines have these names
abbrev pub machine_name_twice : ℕ → List (List ℕ) → ℕ → Data → List PlantError
machine_name_twice i names j m = name_twice (InMachine i j) (take j names) (name_in m)

-- 6, of the machines of stage i
abbrev pub machine_names_twice : ℕ → List Data → List PlantError
machine_names_twice i machines = each (machine_name_twice i (map name_in machines)) machines

-- 6, of stage i, which comes after stages of these names: its name, then those of its machines
abbrev pub stage_name_twice : List (List ℕ) → ℕ → Data → List PlantError
stage_name_twice before i s =
    name_twice (InStage i) before (name_in s) ++ machine_names_twice i (tables_at (codes "machine") s)

-- 6, of these stages: an earlier one, or an earlier machine of the same stage, has the name
abbrev pub stage_names_twice : List Data → List PlantError
stage_names_twice stages = each (λ i s. stage_name_twice (take i (map name_in stages)) i s) stages

-- 6, of a plant file
abbrev pub names_twice : Data → List PlantError
names_twice top = stage_names_twice (tables_at (codes "stage") top)
