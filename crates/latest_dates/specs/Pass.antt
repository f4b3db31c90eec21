-- What the pass from the last date to the first has found.
use Rattle.std.specs.Prelude.{◌≡◌, ℕ, ◌≤◌}
use Rattle.line_base.specs.declared.event.Parts.{Parts}
use Rattle.event_graph.specs.Table.{Table}
use Rattle.event_graph.specs.Solves.{Solves}
use Rattle.live_check.specs.Order.{LiveGraph}
use Rattle.what_if.specs.Page.{IsDate, slot}
use Rattle.latest_dates.specs.Latest.{LatestTable, earliest_bound}
use Rattle.latest_dates.specs.Laws.{IsServed}

-- some table solves the graph, and in it every customer is served in time
pub record IsServable (g : Parts) (may : ℕ) : Type 0 where
  pub table : Table
  pub solves : Solves g table
  pub served : IsServed g may table

-- each date from a slot on is the earliest of all that bounds it
abbrev pub AreLatestFrom : LiveGraph → ℕ → LatestTable → ℕ → Type 0
AreLatestFrom l may y at =
    (t n : ℕ) → IsDate l.graph t n → at ≤ slot l t n → y t n ≡ earliest_bound l.graph may y t n
