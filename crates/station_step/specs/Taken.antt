-- How a tally counts what was taken of its queue: the tokens left of those that it began with, and the place of the next
-- date in the log of its source. Only the tally itself reads these words.
use Rattle.std.specs.Prelude.{◌≡◌, ℕ, zero, suc, ◌+◌, ◌-◌, ◌^◌, ◌≤◌, ◌<◌}
use Rattle.station_step.specs.declared.tally.Origin.{Origin}
use Rattle.station_step.specs.Counts.{QueueTally}

-- how many dates of the log were taken: none as long as tokens are left with which the queue began
abbrev pub dates_taken : ℕ → ℕ → ℕ → ℕ
dates_taken zero next made = next - made
dates_taken (suc left) next made = 0

-- what contracts see of a tally with these fields
abbrev pub seen_tally : ℕ → ℕ → ℕ → Origin → ℕ → QueueTally
seen_tally next station left origin initial = record {
  taken = initial - left + dates_taken left next origin.made;
  initial = initial;
  source = record { station = station; delay = origin.delay };
  made = origin.made;
  start = origin.end - initial;
}

-- the tokens that the queue began with are taken before any date of its source: until then the next place is behind
-- every log
pub record IsTaken (next left : ℕ) (origin : Origin) (initial : ℕ) : Type 0 where
  pub few : initial < 2 ^ 32
  pub left_of : left ≤ initial
  pub ends : initial ≤ origin.end
  pub from : left ≡ 0 → origin.made ≤ next
  pub not_yet : 0 < left → next ≡ 2 ^ 64 - 1
