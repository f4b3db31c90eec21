-- How a line begins, and what is laid for it.
use Rattle.std.specs.Prelude.{◌≡◌, ℕ, ◌+◌, ◌≤◌}
use Rattle.line_base.specs.Limits.{most_workers}
use Rattle.line_setup.specs.declared.start.Start.{Start}
use Rattle.line_setup.specs.Making.{QueueEnds, AreLaid, MayHold}

-- a line may begin so: the state is one of the graph, there are 1 to 16 workers, and rings of the room take the state's
-- tokens
pub record MayBegin (start : Start) : Type 0 where
  pub made_for : start.live.now.graph ≡ start.state.now.graph
  pub some : 1 ≤ start.worker_count
  pub few : start.worker_count ≤ most_workers
  pub fits : MayHold start.room start.live.now.graph start.state.now.state

-- the first n arcs of the line have their ends
abbrev pub AreLaidFor : Start → QueueEnds → ℕ → Type 0
AreLaidFor start ends n = AreLaid start.live.now.graph start.state.now.state start.worker_count ends n

-- arc a, the next one, has its ends too
pub record HasLaid (start : Start) (a : ℕ) (old new : QueueEnds) : Type 0 where
  pub laid : AreLaidFor start new (a + 1)
  pub room : new.room ≡ old.room
