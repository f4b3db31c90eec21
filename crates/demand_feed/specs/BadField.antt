-- What stands in the first bad record of a file where a number is wanted.
use Rattle.std.specs.Prelude.{ℕ, Bool, min, List, take, Option, unwrap_or, is_none}
use Rattle.std.specs.List.{find, prefix_len}
use Rattle.std.specs.Option.{option_map}
use Rattle.line_base.specs.Text.{is_between}
use Rattle.demand_feed.specs.Records.{Record}
use Rattle.demand_feed.specs.Rows.{NumberedRecord, field_in, number_at, lacks_number, jobs}
use Rattle.demand_feed.specs.declared.bad_field.BadField.{BadField}

-- a blank, or another printable character of ASCII
abbrev pub prints : ℕ → Bool
prints byte = is_between 32 126 byte

-- the most characters of a field that are shown
abbrev pub most_shown : ℕ
most_shown = 60

-- a field as far as it is printable, and no longer than is shown
abbrev pub printable_part : List ℕ → List ℕ
printable_part field = take (min most_shown (prefix_len prints field)) field

-- the first of the used columns in which a record lacks a number of at most `most`, if it lacks one
abbrev pub lacking_column : List ℕ → ℕ → Record → Option ℕ
lacking_column used most fields = find (λ column. is_none (number_at most fields column)) used

-- the field of a record in a column, as far as it is printable
abbrev pub field_at : Record → ℕ → BadField
field_at fields column = record { column = column; text = option_map printable_part (field_in fields column) }

-- of a bad record
abbrev pub field_of_bad : List ℕ → ℕ → Record → BadField
field_of_bad used most fields = field_at fields (unwrap_or (lacking_column used most fields) 0)

-- of the first bad record among those of jobs, if one is bad
unfoldable pub bad_field : List ℕ → ℕ → List Record → Option BadField
bad_field used most records =
    option_map (λ row. field_of_bad used most row.1) (find (λ row. lacks_number used most row.1) (jobs used records))
