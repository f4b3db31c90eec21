-- What a class asks of the value at a key, and what it refuses there.
use Rattle.std.specs.Prelude.{ℕ, Bool, true, ◌||◌, List, [], Option, None, Some}
use Rattle.std.specs.Option.{option_map_or}
use Rattle.toml.specs.Data.{Data}
use Rattle.plant_keys.specs.declared.keys.Kind.{Kind}
use Rattle.plant_keys.specs.declared.keys.Kind.TheVariants.{PolicyWord, StageName, MachineName, FileName, StageReference, Number, Numbers, Tables}
use Rattle.plant_keys.specs.declared.keys.Class.{Class}
use Rattle.plant_keys.specs.declared.keys.Class.TheVariants.{UnknownKeys, MissingKeys, WrongTypes, BadNames, OutOfRanges}
use Rattle.plant_keys.specs.Readers.{is_filled, elements_of, tables_of, text_of}
use Rattle.plant_keys.specs.Rules.{has_kind, keeps_name_rule, is_policy, may_be_number, element_out}
use Rattle.plant_keys.specs.declared.fault.Wants.TheVariants.{Between}
use Rattle.plant_keys.specs.declared.fault.Fault.{Fault}
use Rattle.plant_keys.specs.Faults.{wanting, all_of}

-- a value of a kind is within its limits; a list has an element, where it needs one
abbrev pub is_in_range : Kind → Data → Bool
is_in_range PolicyWord v = is_policy (text_of v)
is_in_range StageName v = true
is_in_range MachineName v = true
is_in_range FileName v = true
is_in_range StageReference v = true
is_in_range (Number least most) v = may_be_number least most v
is_in_range (Numbers most may_be_empty) v = may_be_empty || is_filled (elements_of v)
is_in_range (Tables may_be_empty) v = may_be_empty || is_filled (tables_of v)

-- a value of a kind passes a class; the numbers of a list are asked one by one after that
abbrev pub passes : Class → Kind → Data → Bool
passes UnknownKeys kind v = true
passes MissingKeys kind v = true
passes WrongTypes kind v = has_kind kind v
passes BadNames kind v = keeps_name_rule kind (text_of v)
passes OutOfRanges kind v = is_in_range kind v

-- the limit of each number of a list
abbrev pub limit_in : Kind → Option ℕ
limit_in PolicyWord = None
limit_in StageName = None
limit_in MachineName = None
limit_in FileName = None
limit_in StageReference = None
limit_in (Number least most) = None
limit_in (Numbers most may_be_empty) = Some most
limit_in (Tables may_be_empty) = None

-- that limit, where the class is that of limits
abbrev pub limit_of_numbers : Class → Kind → Option ℕ
limit_of_numbers UnknownKeys kind = None
limit_of_numbers MissingKeys kind = None
limit_of_numbers WrongTypes kind = None
limit_of_numbers BadNames kind = None
limit_of_numbers OutOfRanges kind = limit_in kind

-- of element k of a list at a path
abbrev pub number_faults : ℕ → List ℕ → ℕ → Data → List Fault
number_faults most place k v = wanting (Between 0 most) (element_out most place k v)

-- of the numbers of a list
abbrev pub limit_faults : Class → Kind → List ℕ → Data → List Fault
limit_faults class kind place v =
    option_map_or (λ most. all_of (number_faults most place) (elements_of v)) (limit_of_numbers class kind) []
