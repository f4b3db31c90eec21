-- Source: Baccelli, Cohen, Olsder, Quadrat, Synchronization and Linearity, least solution of the
-- evolution equations.
use Rattle.std.specs.Prelude.{ℕ, ◌<◌, ◌≤◌}
use Rattle.line_base.specs.declared.event.Parts.{Parts}
use Rattle.event_graph.specs.Network.{stations, jobs}
use Rattle.event_graph.specs.Table.{Table}
use Rattle.event_graph.specs.Solves.{Solves}

-- no date of x is above the date of y
abbrev pub IsNowhereAbove : Parts → Table → Table → Type 0
IsNowhereAbove g x y = (t n : ℕ) → t < stations g → 1 ≤ n → n ≤ jobs g → x t n ≤ y t n

-- the table solves the graph, and is nowhere above another one that does
pub record IsLeast (g : Parts) (x : Table) : Type 0 where
  pub solves : Solves g x
  pub least : (y : Table) → Solves g y → IsNowhereAbove g x y
