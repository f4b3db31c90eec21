-- Source: Baccelli, Cohen, Olsder, Quadrat, Synchronization and Linearity, evolution equations.
use Rattle.std.specs.Prelude.{◌≡◌, ℕ, ◌<◌, ◌≤◌}
use Rattle.line_base.specs.declared.event.Parts.{Parts}
use Rattle.event_graph.specs.Network.{stations, jobs, demand, EndsAt}
use Rattle.event_graph.specs.Table.{Table}
use Rattle.event_graph.specs.Term.{term}

-- the date of job n at station t is at least the term of each arc into t, and is that of one of them
pub record IsGreatestTerm (g : Parts) (x : Table) (t n : ℕ) : Type 0 where
  pub at_least : (a : ℕ) → EndsAt g t a → term g x a n ≤ x t n
  pub last : ℕ
  pub enters : EndsAt g t last
  pub equal : x t n ≡ term g x last n

-- each date of the feed is the demand date, and each of another station is the greatest of its terms
pub record IsGreatestOfTerms (g : Parts) (x : Table) : Type 0 where
  pub feed : 1 ≤ stations g → (n : ℕ) → 1 ≤ n → n ≤ jobs g → x 0 n ≡ demand g n
  pub others : (t n : ℕ) → 1 ≤ t → t < stations g → 1 ≤ n → n ≤ jobs g → IsGreatestTerm g x t n
