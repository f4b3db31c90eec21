-- How long a burst of a worker is.
use Rattle.std.specs.Prelude.{ℕ}

-- how many turns a worker gives each of its stations in a burst, at most
abbrev pub most_sweeps : ℕ
most_sweeps = 16
