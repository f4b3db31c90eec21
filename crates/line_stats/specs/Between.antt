-- The parts between two stations, over the dates of each, for the walk that finds the most.
use Rattle.std.specs.Prelude.{ℕ, ◌+◌, ◌-◌, nat_le, List, count_by}

-- how many of the dates are at most v
abbrev pub dates_until : List ℕ → ℕ → ℕ
dates_until dates v = count_by (λ date. nat_le date v) dates

-- how many parts are between at date v: those of the start and those that entered, less those that left
abbrev pub between : List ℕ → List ℕ → ℕ → ℕ → ℕ
between entered left start v = start + dates_until entered v - dates_until left v
