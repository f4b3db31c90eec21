-- What writing an answer puts into a sink.
use Rattle.std.specs.Prelude.{◌≡◌, ℕ, List, Result, Ok, Err}
use Rattle.answers.specs.Answer.{answer_bytes}
use Rattle.answers.specs.Curves.{CurveIsPut}
use Rattle.answers.specs.declared.answer.Answer.{Answer}
use Rattle.answers.specs.declared.answer.Answer.TheVariants.{Curved}
use Rattle.answers.specs.declared.unwritten.Unwritten.{Unwritten}
use Rattle.answers.specs.declared.unwritten.Unwritten.TheVariants as unwritten
use Rattle.outside_io.specs.SinkView.{SinkView, WritesText}
use Rattle.outside_io.specs.declared.sink.Failed.{Failed}

-- what writing these bytes answers
abbrev pub whole_of : Result (Unit {0}) Failed → Result (Unit {0}) Unwritten
whole_of (Ok done) = Ok done
whole_of (Err failed) = Err unwritten.Failed

-- bytes were written whole, or a prefix of them where the sink failed; that takes no memory
pub record BytesArePut (bytes : List ℕ) (old new : SinkView) (result : Result (Unit {0}) Unwritten) : Type 0 where
  pub text : WritesText old new bytes result
  pub memory : ¬ (result ≡ Err unwritten.NoMemory)

-- what writing an answer puts into a sink
abbrev pub IsPut : Answer → SinkView → SinkView → Result (Unit {0}) Unwritten → Type 0
IsPut (Curved counts) old new result = CurveIsPut counts old new result
IsPut other old new result = BytesArePut (answer_bytes other) old new result
