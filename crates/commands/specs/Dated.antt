-- What the functions of this crate hand one another: a live plant with its dates, and the first sheet of a live graph.
use Rattle.std.specs.Prelude.{◌≡◌}
use Rattle.event_graph.specs.Least.{IsLeast}
use Rattle.event_graph.specs.Table.{date_in}
use Rattle.line_runs.specs.Table.{IsLeastOf}
use Rattle.live_check.specs.Order.{LiveGraph}
use Rattle.live_plant.specs.declared.live_plant.LivePlant.{LivePlant}
use Rattle.plant_model.specs.Graph.{graph}
use Rattle.what_if.specs.Page.{Page}
use Rattle.what_if.specs.Sheet.{IsBegun}
use Rattle.commands.specs.declared.dates.DatedPlant.{DatedPlant}

-- it is that plant with its live graph, and its dates are the least solution of the plant's graph
pub record IsDatedOf (line : LivePlant) (dated : DatedPlant) : Type 0 where
  pub plant : dated.plant ≡ line.plant
  pub live : dated.live ≡ line.live
  pub least : IsLeastOf (graph line.plant) dated.table

-- the sheet begins, with the least solution as the dates from before the edits
pub record IsFirstSheet (live : LiveGraph) (sheet : Page) : Type 0 where
  pub begun : IsBegun live sheet.first sheet
  pub least : IsLeast live.graph (date_in sheet.first)
