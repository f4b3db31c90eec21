-- Which words may be the label of a station. Bytes are ASCII codes.
use Rattle.std.specs.Prelude.{ℕ, Bool, ◌&&◌, ◌||◌, ◌==◌, List, length}
use Rattle.std.specs.List.{list_all}
use Rattle.line_base.specs.Text.{is_between, is_name_byte}

-- a byte of a name, or a dot
abbrev pub is_label_byte : ℕ → Bool
is_label_byte byte = is_name_byte byte || byte == 46

-- 1 to 49 such bytes
abbrev pub is_label_word : List ℕ → Bool
is_label_word word = is_between 1 49 (length word) && list_all is_label_byte word
