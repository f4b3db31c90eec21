-- Source: Baccelli, Cohen, Olsder, Quadrat, Synchronization and Linearity, evolution equations.
use Rattle.std.specs.Prelude.{ℕ, ◌<◌, ◌≤◌}
use Rattle.line_base.specs.declared.event.Parts.{Parts}
use Rattle.event_graph.specs.Network.{arc, arc_count, jobs, demand}
use Rattle.event_graph.specs.Table.{Table}
use Rattle.event_graph.specs.Term.{term}

-- each date of the table is at least each of its terms: the feed's is the demand date, and every
-- other station has one for each arc into it
pub record Solves (g : Parts) (x : Table) : Type 0 where
  pub feed : (n : ℕ) → 1 ≤ n → n ≤ jobs g → demand g n ≤ x 0 n
  pub others : (a n : ℕ) → a < arc_count g → 1 ≤ n → n ≤ jobs g → term g x a n ≤ x (arc g a).to n
