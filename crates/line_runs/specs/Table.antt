-- The answer of a run that makes all firings.
use Rattle.std.specs.Prelude.{◌≡◌}
use Rattle.line_base.specs.declared.event.Parts.{Parts}
use Rattle.event_graph.specs.Table.{date_in}
use Rattle.event_graph.specs.Least.{IsLeast}
use Rattle.line_core.specs.Run.{Dates, IsLeastTable}

-- the table is of this graph, and is the least solution of its equations
pub record IsLeastOf (g : Parts) (d : Dates) : Type 0 where
  pub graph_is : d.graph ≡ g
  pub least : IsLeast g (date_in d.rows)
  pub whole : IsLeastTable d
