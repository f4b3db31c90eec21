-- Source: Baccelli, Cohen, Olsder, Quadrat, Synchronization and Linearity, reachable markings.
use Rattle.std.specs.Prelude.{ℕ}
use Rattle.line_base.specs.declared.event.Parts.{Parts}
use Rattle.event_graph.specs.State.{State, start}
use Rattle.event_graph.specs.Firing.{CanFire, after}

-- some firings, each possible where it stands, lead from the start to the state
pub data Reached (g : Parts) : State → Type 0 where
  begins : Reached g (start g)
  fires : (s : State) (t : ℕ) → Reached g s → CanFire g s t → Reached g (after g s t)
