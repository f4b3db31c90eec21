-- What it is that a line is in time, and that a count of cards serves: the line is live, and no job waits longer than
-- it may. Jobs are counted from 1. Source: Baccelli, Cohen, Olsder, Quadrat, Synchronization and Linearity: the dates
-- of a line are the least solution of its equations.
use Rattle.std.specs.Prelude.{◌≡◌, ℕ, ◌-◌, ◌<◌, ◌≤◌, length}
use Rattle.line_base.specs.Limits.{most_cards}
use Rattle.line_base.specs.declared.event.Parts.{Parts}
use Rattle.plant_model.specs.declared.plant.Plant.{Plant}
use Rattle.plant_model.specs.Line.{deliver}
use Rattle.plant_model.specs.Graph.{graph}
use Rattle.event_graph.specs.Network.{stations, jobs}
use Rattle.event_graph.specs.Table.{Table}
use Rattle.event_graph.specs.Least.{IsLeast}
use Rattle.event_graph.specs.Live.{IsLive}
use Rattle.card_sizing.specs.Sized.{sized_plant, lowest}

-- how long job n waits, from its demand until station t is done with it
abbrev pub wait_until : Table → ℕ → ℕ → ℕ
wait_until x t n = x t n - x 0 n

-- how long job n waits, from its demand to its delivery
abbrev pub wait_of : Plant → Table → ℕ → ℕ
wait_of p x n = wait_until x (deliver p) n

-- none of the jobs waits longer than it may
abbrev pub NoneWaitsLonger : (ℕ → ℕ) → ℕ → ℕ → Type 0
NoneWaitsLonger wait jobs may = (n : ℕ) → 1 ≤ n → n ≤ jobs → wait n ≤ may

-- the job is the first that waits longer than it may, and this is how long it waits
pub record IsFirstLate (wait : ℕ → ℕ) (jobs may job long : ℕ) : Type 0 where
  pub from_one : 1 ≤ job
  pub exists : job ≤ jobs
  pub waits : wait job ≡ long
  pub longer : may < long
  pub first : (n : ℕ) → 1 ≤ n → n < job → wait n ≤ may

-- in the least solution of the graph no job waits for the last station longer than it may
abbrev pub NoneIsLateIn : Parts → ℕ → Type 0
NoneIsLateIn g may =
    (x : Table) → IsLeast g x → NoneWaitsLonger (wait_until x (stations g - 1)) (jobs g) may

-- in the least solution of the graph this job is the first that waits for the last station longer than it may
abbrev pub IsFirstLateIn : Parts → ℕ → ℕ → ℕ → Type 0
IsFirstLateIn g may job long =
    (x : Table) → IsLeast g x → IsFirstLate (wait_until x (stations g - 1)) (jobs g) may job long

-- the plant's line is live, and no job waits longer than it may
pub record IsInTime (p : Plant) (may : ℕ) : Type 0 where
  pub live : IsLive (graph p)
  pub waits : (x : Table) → IsLeast (graph p) x → NoneWaitsLonger (wait_of p x) (length p.demands) may

-- the plant's line is live, and this job is the first that waits longer than it may, with how long it waits
pub record IsLate (p : Plant) (may job long : ℕ) : Type 0 where
  pub live : IsLive (graph p)
  pub waits : (x : Table) → IsLeast (graph p) x → IsFirstLate (wait_of p x) (length p.demands) may job long

-- with c cards, which are enough for the stock and within the limit, the line is in time
pub record Serves (p : Plant) (may c : ℕ) : Type 0 where
  pub enough : lowest p ≤ c
  pub within : c ≤ most_cards
  pub in_time : IsInTime (sized_plant p c) may

-- with c cards this job is the first that waits longer than it may, with how long it waits
abbrev pub IsLateWith : Plant → ℕ → ℕ → ℕ → ℕ → Type 0
IsLateWith p may c job long = IsLate (sized_plant p c) may job long
