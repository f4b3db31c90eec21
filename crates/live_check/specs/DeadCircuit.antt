-- How a circuit without a token is found among the stations that got no rank.
use Rattle.std.specs.Prelude.{◌≡◌, ℕ, ◌<◌, ◌≤◌, List, slice_index}
use Rattle.line_base.specs.declared.event.Parts.{Parts}
use Rattle.event_graph.specs.Network.{stations, arc_count, arc}
use Rattle.event_graph.specs.Circuit.{IsCircuit, tokens_on}

-- a circuit that holds no token
pub record IsDeadCircuit (g : Parts) (arcs : List ℕ) : Type 0 where
  pub circuit : IsCircuit g arcs
  pub empty : tokens_on g arcs ≡ 0

-- the arc leads out of station t to one without a rank, and holds no token
pub record LeadsOn (g : Parts) (ranks : List ℕ) (t a : ℕ) : Type 0 where
  pub exists : a < arc_count g
  pub from : (arc g a).from ≡ t
  pub free : (arc g a).tokens ≡ 0
  pub unranked : stations g ≤ slice_index ranks (arc g a).to

-- from each station without a rank some arc without a token leads to another one
pub record IsStuck (g : Parts) (ranks : List ℕ) : Type 0 where
  pub way : (t : ℕ) → t < stations g → stations g ≤ slice_index ranks t → (a : ℕ) × LeadsOn g ranks t a
