-- What is asked and what is left of a part of a list, which begins with element `base` of the whole.
use Rattle.std.specs.Prelude.{◌≡◌, ℕ, ◌+◌, ◌^◌, ◌<◌, List, length, slice_index_or}

-- P holds of each element and its index in the whole, and the indices fit in a `usize`
pub record IsReady {X : Type 0} (P : ℕ → X → Type 0) (base : ℕ) (xs : List X) : Type 0 where
  pub room : base + length xs < 2 ^ 64
  pub each : (k : ℕ) (d : X) → k < length xs → P (base + k) (slice_index_or xs k d)

-- R holds of each element before and after
pub record IsDone {X : Type 0} (R : ℕ → X → X → Type 0) (base : ℕ) (xs ys : List X) : Type 0 where
  pub number : length ys ≡ length xs
  pub each : (k : ℕ) (d : X) → k < length xs → R (base + k) (slice_index_or xs k d) (slice_index_or ys k d)
