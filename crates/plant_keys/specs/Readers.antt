-- What stands at a key of a table of a plant file; a default where something else stands there, or nothing.
use Rattle.std.specs.Prelude.{ℕ, ℤ, pos, negsuc, Bool, true, false, ◌&&◌, nat_le, if◌then◌else◌, List, [], ◌∷◌, map, is_some, codes}
use Rattle.std.specs.List.{list_all}
use Rattle.std.specs.Option.{option_map_or}
use Rattle.toml.specs.Data.{Data, string, integer, array, table, Items, no_items, item, Members, no_members, get, as_str, as_integer, as_table}

-- the list has an element
abbrev pub is_filled : {X : Type 0} → List X → Bool
is_filled [] = false
is_filled (_ ∷ _) = true

-- the elements of an array
abbrev pub elements : Items → List Data
elements no_items = []
elements (item d ds) = d ∷ elements ds

-- the elements of a value that is a list, and none of any other
abbrev pub elements_of : Data → List Data
elements_of (array ds) = elements ds
elements_of _ = []

-- the members of a value that is a table, and none of any other
abbrev pub members_in : Data → Members
members_in (table ms) = ms
members_in _ = no_members

abbrev pub is_table : Data → Bool
is_table d = is_some (as_table d)

abbrev pub is_text : Data → Bool
is_text d = is_some (as_str d)

abbrev pub is_number : Data → Bool
is_number d = is_some (as_integer d)

-- the value is a list whose elements all pass
abbrev pub is_list_of : (Data → Bool) → Data → Bool
is_list_of passes (array ds) = list_all passes (elements ds)
is_list_of passes _ = false

-- the table has the key
abbrev pub has : List ℕ → Data → Bool
has key d = is_some (get key d)

-- the text of a value, empty where it is none
abbrev pub text_of : Data → List ℕ
text_of (string s) = s
text_of _ = []

-- the text at a key, empty where there is none
abbrev pub text_at : List ℕ → Data → List ℕ
text_at key d = option_map_or text_of (get key d) []

-- the tables of a value that is a list of tables, and none of any other
abbrev pub tables_of : Data → List Data
tables_of d = if is_list_of is_table d then elements_of d else []

-- the tables of the list at a key, none where there is no list of tables
abbrev pub tables_at : List ℕ → Data → List Data
tables_at key d = option_map_or tables_of (get key d) []

-- a whole number is within limits
abbrev pub is_within : ℕ → ℕ → ℤ → Bool
is_within least most (pos n) = nat_le least n && nat_le n most
is_within least most (negsuc n) = false

-- a whole number from 0 on
abbrev pub size : ℤ → ℕ
size (pos n) = n
size (negsuc n) = 0

-- a whole number, and the default where it isn't within limits
abbrev pub number_in : ℕ → ℕ → ℕ → ℤ → ℕ
number_in least most default z = if is_within least most z then size z else default

-- the number of a value that is one within limits, and else the default
abbrev pub number_of : ℕ → ℕ → ℕ → Data → ℕ
number_of least most default (integer z) = number_in least most default z
number_of least most default _ = default

-- the number at a key, and the default where there is none within limits
abbrev pub number_at : ℕ → ℕ → ℕ → List ℕ → Data → ℕ
number_at least most default key d = option_map_or (number_of least most default) (get key d) default

-- the numbers of the list at a key
abbrev pub numbers_at : ℕ → List ℕ → Data → List ℕ
numbers_at most key d = option_map_or (λ v. map (number_of 0 most 0) (elements_of v)) (get key d) []

-- the name of a stage or of a machine
abbrev pub name_in : Data → List ℕ
name_in d = text_at (codes "name") d

-- the names of the stages
abbrev pub stage_names : Data → List (List ℕ)
stage_names top = map name_in (tables_at (codes "stage") top)
