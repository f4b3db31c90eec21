-- The ratio of a circuit, for the functions that look for a greater one.
use Rattle.std.specs.Prelude.{◌≡◌, ℕ, ◌<◌, ◌≤◌, ◌⊎◌, pos, List, map, length, All}
use Rattle.line_base.specs.Limits.{most_stations}
use Rattle.line_base.specs.declared.event.Parts.{Parts}
use Rattle.event_graph.specs.Network.{arc_count}
use Rattle.cycle_time.specs.declared.certificate.Certificate.{Certificate}
use Rattle.cycle_time.specs.declared.ratio.Ratio.{Ratio}
use Rattle.cycle_time.specs.Certificate.{HasRatio, HasNoCircuit, IsIdle, IsLowest}

-- the graph has no circuit, the list is empty, and the time is 0
pub record IsWithoutCircuit (g : Parts) (time : ℕ) (arcs : List ℕ) : Type 0 where
  pub idle : IsIdle time arcs
  pub none : HasNoCircuit g

-- the ratio of a circuit in lowest terms, or 0 over 1 where the graph has no circuit
pub record IsRatio (g : Parts) (r : Ratio) : Type 0 where
  pub some : 1 ≤ r.cards
  pub lowest : IsLowest r.time r.cards
  pub circuit : HasRatio g r.time r.cards r.circuit.items ⊎ IsWithoutCircuit g r.time r.circuit.items
  pub time_small : r.time ≤ 1_024_000_000_000
  pub cards_small : r.cards ≤ 5_120_000
  pub few : length r.circuit.items ≤ most_stations
  pub exist : All (λ a. a < arc_count g) r.circuit.items

-- the certificate has this ratio, and these potentials
pub record Holds (r : Ratio) (potentials : List ℕ) (c : Certificate) : Type 0 where
  pub time : c.time ≡ r.time
  pub cards : c.cards ≡ r.cards
  pub circuit : c.circuit ≡ r.circuit.items
  pub potentials_are : c.potentials ≡ map pos potentials
