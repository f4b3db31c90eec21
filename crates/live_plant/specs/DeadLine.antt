-- The line of a plant that isn't live: the stations of one circuit without a token.
use Rattle.std.specs.Prelude.{ℕ, List, ◌++◌, codes}
use Rattle.std.specs.List.{flat_map}
use Rattle.command_line.specs.Lines.{after_space}

-- the labels of the stations, each with a space before it
abbrev pub dead_line : List (List ℕ) → List ℕ
dead_line labels = codes "dead:" ++ flat_map after_space labels
