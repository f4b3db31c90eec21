-- What a refused write leaves.
use Rattle.std.specs.Prelude.{ℕ, List, take, Option, Some, None}

-- the file as it was, or this many of the bytes
abbrev pub left_by : Option ℕ → Option (List ℕ) → List ℕ → Option (List ℕ)
left_by None old bytes = old
left_by (Some keep) old bytes = Some (take keep bytes)
