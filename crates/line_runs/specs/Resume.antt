-- What comes of a run that goes on from the text of a state.
use Rattle.std.specs.Prelude.{◌≡◌, ℕ, List, Result, IfOk, IfErr}
use Rattle.line_base.specs.declared.event.Parts.{Parts}
use Rattle.event_graph.specs.State.{State}
use Rattle.event_graph.specs.Reached.{Reached}
use Rattle.line_core.specs.Run.{Dates}
use Rattle.checkpoint.specs.declared.error.CheckpointError.{CheckpointError}
use Rattle.checkpoint.specs.declared.error.CheckpointError.TheVariants.{NoMemory}
use Rattle.checkpoint.specs.Text.{IsTextOf}
use Rattle.checkpoint.specs.Answers.{Tells}
use Rattle.line_runs.specs.Table.{IsLeastOf}

-- the bytes are a text of a state that firings reach
pub record IsCheckpoint (g : Parts) (bytes : List ℕ) : Type 0 where
  pub state : State
  pub reached : Reached g state
  pub text : IsTextOf g state bytes

-- to a text of a state that firings reach the one error is out of memory
abbrev pub FailsOnlyFor : Parts → List ℕ → CheckpointError → Type 0
FailsOnlyFor g bytes error = IsCheckpoint g bytes → error ≡ NoMemory

-- what is answered to these bytes: the least solution where they are a text of a state that firings
-- reach, else what is wrong with them
pub record Resumes (g : Parts) (bytes : List ℕ)
    (answer : Result Dates CheckpointError) : Type 0 where
  pub least : IfOk answer (IsLeastOf g)
  pub reached : IfOk answer (λ _. IsCheckpoint g bytes)
  pub refused : IfErr answer (Tells g bytes)
  pub found : IfErr answer (FailsOnlyFor g bytes)
