-- Laws of the counts, each on a public function whose contract cites it.
-- Source: Baccelli, Cohen, Olsder, Quadrat, Synchronization and Linearity: the tokens of a circuit keep their number.
use Rattle.std.specs.Prelude.{ℕ, ◌+◌, ◌<◌, ◌≤◌, length, IfSome}
use Rattle.line_base.specs.declared.event.Parts.{Parts}
use Rattle.plant_model.specs.declared.plant.Plant.{Plant}
use Rattle.plant_model.specs.Line.{deliver}
use Rattle.plant_model.specs.Graph.{graph}
use Rattle.event_graph.specs.Network.{stations, jobs}
use Rattle.event_graph.specs.Table.{Table}
use Rattle.event_graph.specs.Solves.{Solves}
use Rattle.event_graph.specs.Least.{IsLeast}
use Rattle.plant_model.specs.Bound.{bound}
use Rattle.line_stats.specs.Counts.{standing}

-- no station is done with a job later than with the next
abbrev pub NeverDecreases : Parts → Table → Type 0
NeverDecreases g x = (t n : ℕ) → t < stations g → 1 ≤ n → n < jobs g → x t n ≤ x t (n + 1)

-- the least solution of a plant's graph keeps the jobs in order at each station
abbrev pub KeepsJobsInOrder : Plant → Type 0
KeepsJobsInOrder p = (x : Table) → IsLeast (graph p) x → NeverDecreases (graph p) x

-- no job is delivered before its demand
abbrev pub DeliversOnDemand : Plant → Type 0
DeliversOnDemand p =
    (x : Table) → Solves (graph p) x → (n : ℕ) → 1 ≤ n → n ≤ jobs (graph p) → x 0 n ≤ x (deliver p) n

-- where a stage's bound is a number, no more parts are in the stage at any date
abbrev pub StaysBounded : Plant → Type 0
StaysBounded p =
    (x : Table) → Solves (graph p) x
    → (i v : ℕ) → i < length p.stages → IfSome (bound p i) (λ number. standing p x i v ≤ number)
