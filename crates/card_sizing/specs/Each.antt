-- What the search for the least counts, stage by stage, answers.
use Rattle.std.specs.Prelude.{◌≡◌, ⊤, ℕ, ◌+◌, ◌-◌, ◌*◌, ◌^◌, ◌<◌, ◌≤◌, true, false, List, [], map, length, replicate, slice_index, slice_index_or}
use Rattle.line_base.specs.Limits.{most_cards}
use Rattle.plant_model.specs.declared.plant.Plant.{Plant}
use Rattle.plant_model.specs.Graph.{graph}
use Rattle.line_graph.specs.DeadLabels.{AreDead}
use Rattle.card_sizing.specs.declared.sizing.Below.{Below}
use Rattle.card_sizing.specs.declared.sizing.Below.TheVariants.{Lowest, Job, Dead}
use Rattle.card_sizing.specs.declared.sizing.SizingError.{SizingError}
use Rattle.card_sizing.specs.declared.sizing.SizingError.TheVariants.{NoSingleCount, NoCount, NoMemory}
use Rattle.card_sizing.specs.declared.each.StageSizing.{StageSizing}
use Rattle.card_sizing.specs.Serving.{IsLate, IsLateWith, Serves}
use Rattle.card_sizing.specs.Sizing.{NoneServesBelow}
use Rattle.card_sizing.specs.Counted.{has_stage_counts, least_at, with_counts, ServeEach}
use Rattle.card_sizing.specs.Lowered.{with_count, AreLowered}

-- the counts of the answer, in the order of the stages
abbrev pub counts_of : List StageSizing → List ℕ
counts_of sizings = map (λ s. s.cards) sizings

-- the counts are those that stand at the end where each stage begins at the least single count that serves, and then,
-- from the last stage back to the first, gets the least count with which the line is in time, the others as they stand
pub record AreLeastInOrder (p : Plant) (may : ℕ) (counts : List ℕ) : Type 0 where
  pub start : ℕ
  pub serves : Serves p may start
  pub least : NoneServesBelow p may start
  pub lowered : AreLowered (ServeEach p may) (replicate (length p.stages) start) counts

-- at least as many tries were made as halving takes for each stage: k, where at each stage there are 2 ^ k counts or
-- more from its least one to the one that it has
abbrev pub HalvesEach : Plant → List ℕ → ℕ → ℕ → Type 0
HalvesEach p counts before after =
    (k : ℕ) → ((i : ℕ) → i < length p.stages → 2 ^ k ≤ slice_index counts i - least_at p i + 1) →
    before + k * length p.stages ≤ after

-- as many at least as halving takes where each stage begins at the least single count that serves
abbrev pub HalvesFromStart : Plant → ℕ → ℕ → Type 0
HalvesFromStart p may tries =
    (c : ℕ) → Serves p may c → NoneServesBelow p may c → HalvesEach p (replicate (length p.stages) c) 0 tries

-- the names of its stages
abbrev pub names_of : List StageSizing → List (List ℕ)
names_of sizings = map (λ s. s.stage) sizings

-- what stands where a number names no stage
abbrev pub no_sizing : StageSizing
no_sizing = record { stage = []; cards = 0; below = Lowest }

-- the reason of stage i
abbrev pub below_at : List StageSizing → ℕ → Below
below_at sizings i = (slice_index_or sizings i no_sizing).below

-- why stage i can't have one card less, the others as they stand: it has its least count, or with one less the line is
-- live and this job is the first that waits longer than it may, or with one less this circuit has no token
abbrev pub IsBelowAt : Plant → ℕ → List ℕ → ℕ → Below → Type 0
IsBelowAt p may counts i Lowest = slice_index counts i ≡ least_at p i
IsBelowAt p may counts i (Job job wait) =
    (least_at p i < slice_index counts i)
    × IsLate (with_counts p (with_count counts i (slice_index counts i - 1))) may job wait
IsBelowAt p may counts i (Dead labels) =
    (least_at p i < slice_index counts i)
    × AreDead (graph (with_counts p (with_count counts i (slice_index counts i - 1)))) labels

-- each of the first n stages has its reason
abbrev pub HaveReasons : Plant → ℕ → List ℕ → List StageSizing → ℕ → Type 0
HaveReasons p may counts sizings n = (i : ℕ) → i < n → IsBelowAt p may counts i (below_at sizings i)

-- why no counts are answered: the stages have none, or with the most cards at each stage this job is the first that
-- waits longer than it may; running out of memory says nothing
abbrev pub IsEachRefusal : Plant → ℕ → SizingError → Type 0
IsEachRefusal p may NoSingleCount = has_stage_counts p ≡ false
IsEachRefusal p may (NoCount job wait) = (has_stage_counts p ≡ true) × IsLateWith p may most_cards job wait
IsEachRefusal p may NoMemory = ⊤
