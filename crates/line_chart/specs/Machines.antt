-- What is known of the lanes of a machine of a graph.
use Rattle.std.specs.Prelude.{◌≡◌, ℕ, ◌<◌, ◌≤◌, List}
use Rattle.line_base.specs.declared.event.Parts.{Parts}
use Rattle.event_graph.specs.Network.{stations}
use Rattle.plant_model.specs.declared.plant.Plant.{Plant}
use Rattle.line_chart.specs.declared.lanes.Lanes.{Lanes}
use Rattle.line_chart.specs.Bars.{lane_count, machines}

-- the machine is a station of the graph, and has a lane; lanes have small numbers
pub record IsMachineOf (g : Parts) (m : Lanes) : Type 0 where
  pub exists : m.station < stations g
  pub some : 1 ≤ m.count
  pub few : m.count ≤ 10_000
  pub small : m.first ≤ 5_120_000

-- the numbers of the stations are those of the plant, and the lanes and their count those of its machines
pub record AreLanesOf (p : Plant) (of : Plant) (list : List Lanes) (count : ℕ) : Type 0 where
  pub numbers : of ≡ p
  pub machines : list ≡ machines p
  pub lanes : count ≡ lane_count p
  pub small : count ≤ 5_120_000
