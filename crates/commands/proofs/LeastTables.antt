-- Tables that are the least solution of a graph.
use Rattle.std.proofs.Common.{◌≡◌, subst}
use Rattle.event_graph.specs.Least.{IsLeast}
use Rattle.event_graph.specs.Table.{date_in}
use Rattle.line_base.specs.declared.event.Parts.{Parts}
use Rattle.line_core.specs.Run.{Dates, IsLeastTable}
use Rattle.line_runs.specs.Table.{IsLeastOf}

-- a table is the least solution of its graph
pub is_least_table : (g : Parts) (table : Dates) → table.graph ≡ g → IsLeastTable table → IsLeastOf g table
is_least_table g table is whole = record {
  graph_is = is;
  least = subst (λ (h : Parts). IsLeast h (date_in table.rows)) is whole.least;
  whole = whole;
}
