-- For the proofs of this crate: marks for the columns that machines use, one for each number from 0 on.
use Rattle.std.specs.Prelude.{◌≡◌, ℕ, ◌<◌, ◌≤◌, Bool, false, ◌||◌, List, length, slice_index_or}
use Rattle.std.specs.List.{list_any}
use Rattle.line_base.specs.Limits.{last_column}
use Rattle.plant_file.specs.Draft.{DraftMachine, DraftStage}
use Rattle.plant_file.specs.declared.draft.DraftPlant.{DraftPlant}
use Rattle.plant_file.specs.Draft.{uses, is_used}

-- the numbers that pass are marked beside those that were
pub record AddsMarks (old new : List Bool) (used : ℕ → Bool) : Type 0 where
  pub same_length : length new ≡ length old
  pub marked : (c : ℕ) → c < length old → slice_index_or new c false ≡ (slice_index_or old c false || used c)

-- a machine of these uses the column
abbrev pub is_used_by : List DraftMachine → ℕ → Bool
is_used_by machines c = list_any (λ m. uses c m.times) machines

-- a machine of these stages uses the column
abbrev pub is_used_in : List DraftStage → ℕ → Bool
is_used_in stages c = list_any (λ s. is_used_by s.machines c) stages

-- each column that a machine of the draft uses is marked, and no other
pub record AreMarks (d : DraftPlant) (marks : List Bool) : Type 0 where
  pub enough : last_column < length marks
  pub used : (c : ℕ) → c ≤ last_column → slice_index_or marks c false ≡ is_used d c
