-- What a try of a plant finds, and how many tries a search has left.
use Rattle.std.specs.Prelude.{◌≡◌, ⊤, ℕ, ◌+◌, ◌^◌, ◌<◌, ◌≤◌, List, Option, None, Some}
use Rattle.plant_model.specs.declared.plant.Plant.{Plant}
use Rattle.plant_model.specs.Graph.{graph}
use Rattle.card_sizing.specs.declared.sizing.Below.{Below}
use Rattle.card_sizing.specs.declared.sizing.Below.TheVariants.{Lowest, Job, Dead}
use Rattle.card_sizing.specs.Serving.{IsInTime, IsLate}
use Rattle.live_check.specs.declared.live.NotLive.{NotLive}
use Rattle.live_check.specs.declared.live.NotLive.TheVariants as refusal
use Rattle.live_check.specs.DeadCircuit.{IsDeadCircuit}
use Rattle.line_graph.specs.DeadLabels.{AreDead}

-- why the plant's line isn't in time: it is live, and this job is the first that waits longer than it may, or this
-- circuit has no token
abbrev pub FailsBy : Plant → ℕ → Below → Type 0
FailsBy p may Lowest = ⊥
FailsBy p may (Job job wait) = IsLate p may job wait
FailsBy p may (Dead labels) = AreDead (graph p) labels

-- the line is in time, or this is why it isn't
abbrev pub Tells : Plant → ℕ → Option Below → Type 0
Tells p may None = IsInTime p may
Tells p may (Some below) = FailsBy p may below

-- a graph that is handed back as dead has this circuit, which holds no token
abbrev pub ShowsItsCircuit : NotLive → Type 0
ShowsItsCircuit (refusal.Dead g arcs) = IsDeadCircuit g arcs
ShowsItsCircuit (refusal.NoMemory g) = ⊤

-- the labels are those along a circuit without a token of a graph that is handed back as dead
abbrev pub NamesItsCircuit : NotLive → List (List ℕ) → Type 0
NamesItsCircuit (refusal.Dead g arcs) labels = AreDead g labels
NamesItsCircuit (refusal.NoMemory g) labels = ⊥

-- `tries` of `most` tries were made, and halving the counts in this range takes no more than are left
pub record HasTriesLeft (most tries range : ℕ) : Type 0 where
  pub left : ℕ
  pub all : tries + left ≡ most
  pub halved : range < 2 ^ left

-- at least as many tries were made as halving takes where the counts lie this far apart: k where they are 2 ^ k or more
abbrev pub HalvesRange : ℕ → ℕ → ℕ → Type 0
HalvesRange range before after = (k : ℕ) → 2 ^ k ≤ range + 1 → before + k ≤ after

-- the tries halved the counts that lay `start` apart, one after the other; these lie `range` apart
pub record IsHalving (begun tries start range : ℕ) : Type 0 where
  pub done : ℕ
  pub counted : tries ≡ begun + done
  pub halved : (k : ℕ) → 2 ^ (done + k) ≤ start + 1 → 2 ^ k ≤ range + 1
