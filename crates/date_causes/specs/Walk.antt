-- Every walk of amounts that ends at a date, for the law that none sums to more than the chain of causes.
-- Source: Baccelli, Cohen, Olsder, Quadrat, Synchronization and Linearity, weights of paths.
use Rattle.std.specs.Prelude.{ℕ, ◌+◌, ◌-◌, ◌<◌, ◌≤◌, List, [], ◌∷◌, ◌++◌}
use Rattle.line_base.specs.declared.event.Parts.{Parts}
use Rattle.event_graph.specs.Network.{jobs, arc_count, arc, demand, delay}
use Rattle.event_graph.specs.Term.{work}

-- a walk that ends at job n of station t and begins at a demand or at a token of the start, as the list of what it
-- adds: the demand date, the time for the job that takes a token of the start, and along each further arc the time and
-- the delay
pub data IsWalkTo (g : Parts) : ℕ → ℕ → List ℕ → Type 0 where
  from_demand : (n : ℕ) → 1 ≤ n → n ≤ jobs g → IsWalkTo g 0 n (demand g n ∷ [])
  from_start : (a n : ℕ) → a < arc_count g → 1 ≤ n → n ≤ jobs g → n ≤ (arc g a).tokens
      → IsWalkTo g (arc g a).to n (work g a n ∷ [])
  along : (a n : ℕ) (amounts : List ℕ) → a < arc_count g → n ≤ jobs g → (arc g a).tokens < n
      → IsWalkTo g (arc g a).from (n - (arc g a).tokens) amounts
      → IsWalkTo g (arc g a).to n (amounts ++ (work g a n + delay g a) ∷ [])
