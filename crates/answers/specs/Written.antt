-- Lines that were given to a sink and counted.
use Rattle.std.specs.Prelude.{◌≡◌, ℕ, false, List, length}
use Rattle.outside_io.specs.Outgoing.{Stream, Pending, Pushed, nothing_waiting}
use Rattle.answers.specs.ChangesText.{joined_lines}

-- these lines were given to a stream, and this is their number
pub record IsWritten (old new : Stream) (lines : List (List ℕ)) (count : ℕ) : Type 0 where
  pub pushed : Pushed old new (joined_lines lines)
  pub counted : count ≡ length lines

-- nothing waits to be given to a sink, and none has failed
abbrev pub IsEmptied : Pending → Type 0
IsEmptied out = out ≡ nothing_waiting false
