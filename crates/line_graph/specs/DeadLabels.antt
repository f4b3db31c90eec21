-- The stations along a circuit, and those along one without a token, by their labels.
use Rattle.std.specs.Prelude.{◌≡◌, ℕ, List, map}
use Rattle.line_base.specs.declared.event.Parts.{Parts}
use Rattle.event_graph.specs.Network.{label}
use Rattle.event_graph.specs.Circuit.{starting_stations}
use Rattle.live_check.specs.DeadCircuit.{IsDeadCircuit}
use Rattle.line_graph.specs.Turned.{IsTurned}

-- the labels are those of the stations at which these arcs start, from the one with the least number on
pub record AreAlong (g : Parts) (arcs : List ℕ) (labels : List (List ℕ)) : Type 0 where
  pub stations : List ℕ
  pub turned : IsTurned (starting_stations g arcs) stations
  pub named : labels ≡ map (label g) stations

-- the labels are those of the stations along a circuit of the graph that holds no token, from the one with the least
-- number on
pub record AreDead (g : Parts) (labels : List (List ℕ)) : Type 0 where
  pub arcs : List ℕ
  pub dead : IsDeadCircuit g arcs
  pub along : AreAlong g arcs labels
