-- Words and lines of text. A space is 32; a line ends with a line feed, 10.
use Rattle.std.specs.Prelude.{ℕ, List, [], ◌∷◌, ◌++◌}
use Rattle.std.specs.List.{flat_map}

-- a word with a space before it
abbrev pub after_space : List ℕ → List ℕ
after_space word = 32 ∷ word

-- a text and a line feed
abbrev pub as_line : List ℕ → List ℕ
as_line text = text ++ 10 ∷ []

-- lines, each with its line feed
abbrev pub as_text : List (List ℕ) → List ℕ
as_text lines = flat_map as_line lines
