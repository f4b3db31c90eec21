-- The stations of a circuit from the one with the least number on.
use Rattle.std.specs.Prelude.{◌≡◌, ℕ, ◌≤◌, List, ◌++◌, take, drop, slice_index, All}

-- the stations of a circuit, turned round so that the one with the least number is the first
pub record IsTurned (stations turned : List ℕ) : Type 0 where
  pub at : ℕ
  pub turned_is : turned ≡ drop at stations ++ take at stations
  pub least_first : All (λ t. slice_index turned 0 ≤ t) turned
