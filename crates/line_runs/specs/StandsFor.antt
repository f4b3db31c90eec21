-- A line that is made from the text of a state.
use Rattle.std.specs.Prelude.{ℕ, List}
use Rattle.event_graph.specs.State.{State}
use Rattle.event_graph.specs.Reached.{Reached}
use Rattle.live_check.specs.Order.{LiveGraph}
use Rattle.line_workers.specs.Line.{WorkLine, Stands}
use Rattle.checkpoint.specs.Text.{IsTextOf}

-- a new line of this many workers, which stands for the state whose text the bytes are
pub record StandsFor (live : LiveGraph) (bytes : List ℕ) (workers : ℕ)
    (l : WorkLine) : Type 0 where
  pub state : State
  pub reached : Reached live.graph state
  pub text : IsTextOf live.graph state bytes
  pub stands : Stands live state workers l
