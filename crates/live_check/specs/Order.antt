-- An order of the stations of a live graph.
-- Source: Baccelli, Cohen, Olsder, Quadrat, Synchronization and Linearity: the arcs without tokens of a live graph
-- have no circuit, so that its stations can be numbered along them.
use Rattle.std.specs.Prelude.{◌≡◌, ◌≢◌, ℕ, ◌<◌, List, length, slice_index, All, AllPairs}
use Rattle.line_base.specs.declared.event.Parts.{Parts}
use Rattle.event_graph.specs.Network.{IsGraph, stations, arc_count, arc}
use Rattle.event_graph.specs.Limits.{IsWithinLimits}
use Rattle.event_graph.specs.Live.{IsLive}

-- what contracts see of a `Live`: its graph, and the rank of each station in the order
pub record LiveGraph : Type 0 where
  pub graph : Parts
  pub ranks : List ℕ

-- each station has a rank of its own, and each arc without a token goes upwards
pub record IsUpward (g : Parts) (ranks : List ℕ) : Type 0 where
  pub rank_for_each : length ranks ≡ stations g
  pub below : All (λ rank. rank < stations g) ranks
  pub distinct : AllPairs (λ rank other. rank ≢ other) ranks
  pub upward : (a : ℕ) → a < arc_count g → (arc g a).tokens ≡ 0 →
      slice_index ranks (arc g a).from < slice_index ranks (arc g a).to

-- the stations have an order in which each arc without a token goes upwards
abbrev pub HasOrder : Parts → Type 0
HasOrder g = (ranks : List ℕ) × IsUpward g ranks

-- at each rank stands a station that has this rank
pub record StandsAt (g : Parts) (ranks order : List ℕ) : Type 0 where
  pub one_for_each : length order ≡ stations g
  pub exists : (rank : ℕ) → rank < stations g → slice_index order rank < stations g
  pub rank : (rank : ℕ) → rank < stations g → slice_index ranks (slice_index order rank) ≡ rank

-- the graph is sound and live, and the ranks order its stations
pub record IsRanked (l : LiveGraph) : Type 0 where
  pub sound : IsGraph l.graph
  pub limits : IsWithinLimits l.graph
  pub live : IsLive l.graph
  pub upward : IsUpward l.graph l.ranks

-- the ranks order the stations of the graph, which is live, and the order has the station at each rank
pub record IsOrdered (g : Parts) (ranks order : List ℕ) : Type 0 where
  pub ranked : IsRanked (record { graph = g; ranks = ranks })
  pub stands : StandsAt g ranks order
