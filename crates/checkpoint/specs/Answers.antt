-- What `read_state` answers, and when.
use Rattle.std.specs.Prelude.{◌≡◌, ℕ, List, length, Some, Result, Ok, Err, ⊤}
use Rattle.line_base.specs.declared.event.Parts.{Parts}
use Rattle.event_graph.specs.Network.{stations, arc_count}
use Rattle.event_graph.specs.State.{State}
use Rattle.event_graph.specs.Reached.{Reached}
use Rattle.line_core.specs.declared.error.StateError.{StateError}
use Rattle.line_core.specs.declared.error.StateError.TheVariants as Core
use Rattle.line_core.specs.Parts.{state_refusal}
use Rattle.line_core.specs.Run.{Run}
use Rattle.checkpoint.specs.declared.error.Stop.{Stop}
use Rattle.checkpoint.specs.declared.error.Stop.TheVariants.{Form, Memory}
use Rattle.checkpoint.specs.declared.error.CheckpointError.{CheckpointError}
use Rattle.checkpoint.specs.declared.error.CheckpointError.TheVariants.{Line, Count, Marking, Date, PlaceDate, NoMemory}
use Rattle.checkpoint.specs.Text.{IsTextOf}
use Rattle.checkpoint.specs.Given.{AreGiven}
use Rattle.checkpoint.specs.FirstBadLine.{IsFirstBadLine}

-- the error of a line with this number that was not read
abbrev pub stopped_at : Stop → ℕ → CheckpointError
stopped_at Form number = Line number
stopped_at Memory number = NoMemory

-- every line of a text is of the form, and these are the logs and places that they say
pub record Says (g : Parts) (bytes : List ℕ) (parts : State) : Type 0 where
  pub text : IsTextOf g parts bytes
  pub a_log_each : length parts.logs ≡ stations g
  pub a_place_each : length parts.places ≡ arc_count g
  pub logs_given : AreGiven parts.logs
  pub places_given : AreGiven parts.places

-- and this is the first thing that is wrong with them
pub record IsRefused (g : Parts) (bytes : List ℕ) (refusal : StateError) : Type 0 where
  pub parts : State
  pub said : Says g bytes parts
  pub refusal_is : state_refusal g parts.logs parts.places ≡ Some refusal

-- when each error comes; running out of memory may come at any time
abbrev pub Tells : Parts → List ℕ → CheckpointError → Type 0
Tells g bytes (Line number) = IsFirstBadLine g bytes number
Tells g bytes (Count station have limit) = IsRefused g bytes (Core.Count station have limit)
Tells g bytes (Marking arc have need) = IsRefused g bytes (Core.Marking arc have need)
Tells g bytes (Date station job have need) = IsRefused g bytes (Core.Date station job have need)
Tells g bytes (PlaceDate arc token have need) = IsRefused g bytes
    (Core.PlaceDate arc token have need)
Tells g bytes NoMemory = ⊤

-- the answer is this state, unless memory ran out
abbrev pub IsStateOrNoMemory : Result Run CheckpointError → State → Type 0
IsStateOrNoMemory (Ok run) s = run.state ≡ s
IsStateOrNoMemory (Err error) s = error ≡ NoMemory

-- to a text of a state that firings reach the answer is that state
abbrev pub FindsStates : Parts → List ℕ → Result Run CheckpointError → Type 0
FindsStates g bytes answer = (s : State) → Reached g s → IsTextOf g s bytes
    → IsStateOrNoMemory answer s
