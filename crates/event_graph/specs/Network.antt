-- The looks of an event graph, for every contract that speaks of one. A graph is seen as its `Parts`.
-- Source: Baccelli, Cohen, Olsder, Quadrat, Synchronization and Linearity, timed event graphs.
use Rattle.std.specs.Prelude.{◌≡◌, ◌≢◌, ℕ, ◌-◌, ◌<◌, ◌≤◌, ◌==◌, List, [], false, length, slice_index, slice_index_or, filter}
use Rattle.std.specs.List.{range_with_len}
use Rattle.line_base.specs.declared.event.Arc.{Arc}
use Rattle.line_base.specs.declared.event.Parts.{Parts}
use Rattle.line_base.specs.declared.times.Times.TheVariants.{Fixed}
use Rattle.line_base.specs.Times.{time_at}

-- how many stations, jobs and arcs there are
abbrev pub stations : Parts → ℕ
stations g = length g.labels

abbrev pub jobs : Parts → ℕ
jobs g = length g.dates

abbrev pub arc_count : Parts → ℕ
arc_count g = length g.arcs

-- arc number a
abbrev pub arc : Parts → ℕ → Arc
arc g a = slice_index_or g.arcs a (record { from = 0; to = 0; tokens = 0; worked = false })

-- the text of station t
abbrev pub label : Parts → ℕ → List ℕ
label g t = slice_index_or g.labels t []

-- the time that station t takes for job n, where jobs are counted from 1
unfoldable pub time : Parts → ℕ → ℕ → ℕ
time g t n = time_at (slice_index_or g.times t (Fixed 0)) n

-- the date at which job n is demanded
unfoldable pub demand : Parts → ℕ → ℕ
demand g n = slice_index g.dates (n - 1)

-- how long a token that a firing puts on arc a is under way
unfoldable pub delay : Parts → ℕ → ℕ
delay g a = slice_index g.delays a

-- the numbers of the arcs into station t, and of those out of it, ascending
unfoldable pub ins : Parts → ℕ → List ℕ
ins g t = filter (λ a. (arc g a).to == t) (range_with_len 0 (arc_count g))

unfoldable pub outs : Parts → ℕ → List ℕ
outs g t = filter (λ a. (arc g a).from == t) (range_with_len 0 (arc_count g))

-- arc a is there, and ends at station t, or starts there
abbrev pub EndsAt : Parts → ℕ → ℕ → Type 0
EndsAt g t a = (a < arc_count g) × ((arc g a).to ≡ t)

abbrev pub StartsAt : Parts → ℕ → ℕ → Type 0
StartsAt g t a = (a < arc_count g) × ((arc g a).from ≡ t)

-- station 0 is the feed, which no arc enters; every other station has an arc in
pub record IsGraph (g : Parts) : Type 0 where
  pub starts_exist : (a : ℕ) → a < arc_count g → (arc g a).from < stations g
  pub ends_exist : (a : ℕ) → a < arc_count g → (arc g a).to < stations g
  pub feed_has_no_input : (a : ℕ) → a < arc_count g → (arc g a).to ≢ 0
  pub others_have_input : (t : ℕ) → 1 ≤ t → t < stations g → (a : ℕ) × (a < arc_count g) × ((arc g a).to ≡ t)
