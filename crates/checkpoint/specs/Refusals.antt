-- The error that each refusal of logs and places becomes.
use Rattle.line_core.specs.declared.error.StateError.{StateError}
use Rattle.line_core.specs.declared.error.StateError.TheVariants as Core
use Rattle.checkpoint.specs.declared.error.CheckpointError.{CheckpointError}
use Rattle.checkpoint.specs.declared.error.CheckpointError.TheVariants.{Count, Marking, Date, PlaceDate, NoMemory}

abbrev pub of_state_error : StateError → CheckpointError
of_state_error (Core.Count station have limit) = Count station have limit
of_state_error (Core.Marking arc have need) = Marking arc have need
of_state_error (Core.Date station job have need) = Date station job have need
of_state_error (Core.PlaceDate arc token have need) = PlaceDate arc token have need
of_state_error Core.NoMemory = NoMemory
