-- What lint says where the head of a table stands a second time, as `[stage]` does for `[[stage]]`.
use Rattle.std.specs.Prelude.{ℕ, Bool, false, ◌&&◌, ◌||◌, ◌==◌, nat_eq, if◌then◌else◌, List, [], ◌∷◌, ◌++◌, length, take, drop, codes}
use Rattle.std.specs.List.{prefix_len, starts_with}
use Rattle.line_base.specs.Text.{is_between}
use Rattle.plant_keys.specs.Rules.{is_plain}
use Rattle.plant_lint.specs.Positions.{ends_line, position_line}

-- a byte of the head of a table: one of a key, or the dot
abbrev pub is_head_byte : ℕ → Bool
is_head_byte byte = is_plain byte || byte == 46

-- the bytes of a head with which a text begins
abbrev pub head_part : List ℕ → List ℕ
head_part text = take (prefix_len is_head_byte text) text

-- the name behind the bracket with which a text begins
abbrev pub name_behind : List ℕ → List ℕ
name_behind text = head_part (drop 1 text)

-- the head of the table of this name
abbrev pub head_of : List ℕ → List ℕ
head_of name = codes "[" ++ (name ++ codes "]")

-- a byte ends a line, and what comes behind it begins so
abbrev pub begins_line : List ℕ → ℕ → List ℕ → Bool
begins_line start byte behind = ends_line byte && starts_with nat_eq behind start

-- a line of a text behind its first one begins so
unfoldable pub has_line : List ℕ → List ℕ → Bool
has_line start [] = false
has_line start (byte ∷ bytes) = begins_line start byte bytes || has_line start bytes

-- a line of a text begins so
abbrev pub has_line_with : List ℕ → List ℕ → Bool
has_line_with start text = starts_with nat_eq text start || has_line start text

-- the rest of a text begins with the head of the table of this name, of at most 60 bytes, and so does a line before it
abbrev pub stands_twice : List ℕ → List ℕ → List ℕ → Bool
stands_twice name before rest =
    is_between 1 60 (length name) && starts_with nat_eq rest (head_of name) && has_line_with (head_of name) before

-- the head of an element of the list of this name
abbrev pub list_head : List ℕ → List ℕ
list_head name = codes "[[" ++ (name ++ codes "]]")

-- what is asked of a name
abbrev pub list_question : List ℕ → List ℕ
list_question name = codes " is '" ++ (name ++ (codes "' a list? write " ++ list_head name))

-- and where it stands twice
abbrev pub twice_question : List ℕ → List ℕ → List ℕ
twice_question before rest =
    if stands_twice (name_behind rest) before rest then list_question (name_behind rest) else []

-- the line of a file that is no TOML, where the reader's error stands between these two parts
abbrev pub no_toml_line : List ℕ → List ℕ → List ℕ
no_toml_line before rest = position_line before ++ (twice_question before rest ++ codes "\n")
