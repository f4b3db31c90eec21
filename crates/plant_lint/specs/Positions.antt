-- Where a byte stands in a text: its line and its column, both from 1; a column counts characters.
use Rattle.std.specs.Prelude.{ℕ, ◌+◌, Bool, not, ◌==◌, if◌then◌else◌, List, [], ◌∷◌, ◌++◌, codes, decimal}
use Rattle.std.specs.List.{list_any, count_by}
use Rattle.line_base.specs.Text.{is_between}

-- a byte ends a line
abbrev pub ends_line : ℕ → Bool
ends_line byte = byte == 10

-- a byte of UTF-8 begins a character
abbrev pub begins_character : ℕ → Bool
begins_character byte = not (is_between 128 191 byte)

-- the bytes behind the last that ends a line
abbrev pub last_line : List ℕ → List ℕ
last_line [] = []
last_line (byte ∷ bytes) = if list_any ends_line (byte ∷ bytes) then last_line bytes else byte ∷ bytes

-- the line of the byte that comes after these
abbrev pub line_after : List ℕ → ℕ
line_after before = count_by ends_line before + 1

-- the column of the byte that comes after these
abbrev pub column_after : List ℕ → ℕ
column_after before = count_by begins_character (last_line before) + 1

-- that a file is no TOML, where the reader's error begins behind these bytes
abbrev pub position_line : List ℕ → List ℕ
position_line before =
    codes "line " ++ (decimal (line_after before)
    ++ (codes " column " ++ (decimal (column_after before) ++ codes ": not toml")))
