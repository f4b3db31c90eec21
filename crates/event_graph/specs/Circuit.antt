-- Source: Baccelli, Cohen, Olsder, Quadrat, Synchronization and Linearity, circuits of event graphs.
use Rattle.std.specs.Prelude.{◌≡◌, ◌≢◌, ℕ, ◌+◌, ◌<◌, List, [], ◌∷◌, map, length, sum_by, AllPairs}
use Rattle.line_base.specs.declared.event.Parts.{Parts}
use Rattle.event_graph.specs.Network.{arc_count, arc, delay}
use Rattle.event_graph.specs.Term.{work}

-- the arcs lead from station t, one after the other, to station u
abbrev pub IsWalk : Parts → ℕ → List ℕ → ℕ → Type 0
IsWalk g t [] u = t ≡ u
IsWalk g t (a ∷ arcs) u = (a < arc_count g) × ((arc g a).from ≡ t) × IsWalk g (arc g a).to arcs u

-- the station at which each arc starts
abbrev pub starting_stations : Parts → List ℕ → List ℕ
starting_stations g arcs = map (λ a. (arc g a).from) arcs

-- at least one arc, from a station back to it, through distinct stations
pub record IsCircuit (g : Parts) (arcs : List ℕ) : Type 0 where
  pub some : 0 < length arcs
  pub base : ℕ
  pub closed : IsWalk g base arcs base
  pub distinct : AllPairs (λ t u. t ≢ u) (starting_stations g arcs)

-- how many tokens the arcs have at the start
abbrev pub tokens_on : Parts → List ℕ → ℕ
tokens_on g arcs = sum_by (λ a. (arc g a).tokens) arcs

-- the job times and delays along the arcs, where no time varies from job to job
abbrev pub time_along : Parts → List ℕ → ℕ
time_along g arcs = sum_by (λ a. work g a 1 + delay g a) arcs
