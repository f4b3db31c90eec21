-- What the search for the least count answers.
use Rattle.std.specs.Prelude.{◌≡◌, ⊤, ℕ, ◌+◌, ◌-◌, ◌^◌, ◌<◌, ◌≤◌, true, false}
use Rattle.line_base.specs.Limits.{most_cards}
use Rattle.plant_model.specs.declared.plant.Plant.{Plant}
use Rattle.plant_model.specs.Graph.{graph}
use Rattle.card_sizing.specs.declared.sizing.Below.{Below}
use Rattle.card_sizing.specs.declared.sizing.Below.TheVariants.{Lowest, Job, Dead}
use Rattle.card_sizing.specs.declared.sizing.SizingError.{SizingError}
use Rattle.card_sizing.specs.declared.sizing.SizingError.TheVariants.{NoSingleCount, NoCount, NoMemory}
use Rattle.card_sizing.specs.Sized.{has_single_count, sized_plant, lowest, highest}
use Rattle.card_sizing.specs.Serving.{Serves, IsLateWith}
use Rattle.line_graph.specs.DeadLabels.{AreDead}

-- no count below c serves
abbrev pub NoneServesBelow : Plant → ℕ → ℕ → Type 0
NoneServesBelow p may c = (d : ℕ) → d < c → ¬ Serves p may d

-- why c cards can't be one less: they are the lowest count, or with one less the line is live and this job is the first
-- that waits longer than it may, or with one less this circuit has no token, so that the line isn't live
abbrev pub IsBelow : Plant → ℕ → ℕ → Below → Type 0
IsBelow p may c Lowest = c ≡ lowest p
IsBelow p may c (Job job wait) = (lowest p < c) × IsLateWith p may (c - 1) job wait
IsBelow p may c (Dead labels) = (lowest p < c) × AreDead (graph (sized_plant p (c - 1))) labels

-- why no count is answered: the plant has no single count, or with the most cards this job is the first that waits
-- longer than it may; running out of memory says nothing
abbrev pub IsSizingRefusal : Plant → ℕ → SizingError → Type 0
IsSizingRefusal p may NoSingleCount = has_single_count p ≡ false
IsSizingRefusal p may (NoCount job wait) = (has_single_count p ≡ true) × IsLateWith p may most_cards job wait
IsSizingRefusal p may NoMemory = ⊤

-- as many tries as halving the counts from the lowest to the highest takes: where they are fewer than 2 ^ k, at most k,
-- and the first
abbrev pub HalvesCounts : Plant → ℕ → Type 0
HalvesCounts p tries = (k : ℕ) → highest p - lowest p < 2 ^ k → tries ≤ 1 + k

-- how far the search has come: no count below `low` serves, and `below` says why for the one before it; `high` serves
pub record IsSearch (p : Plant) (may low high : ℕ) (below : Below) : Type 0 where
  pub ordered : low ≤ high
  pub enough : lowest p ≤ low
  pub none : NoneServesBelow p may low
  pub reason : IsBelow p may low below
  pub serves : Serves p may high
