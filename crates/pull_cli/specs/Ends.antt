-- The theorem of the top call: for every list of words, every store, sink, gate and disk, every number of workers and
-- whatever their threads do, the call ends in one of the ways that are allowed here.
use Rattle.std.specs.Prelude.{◌≡◌, ◌⊎◌, ℕ, List, Result, Ok, Err, ⊤}
use Rattle.outside_io.specs.Faults.{Rose}
use Rattle.outside_io.specs.SinkView.{SinkView, PutsAll, PutsPrefix}
use Rattle.outside_io.specs.declared.sink.Failed.{Failed}
use Rattle.command_line.specs.Words.{command_of}
use Rattle.live_plant.specs.Refusal.{status_of, text_of, IsFixed}
use Rattle.live_plant.specs.declared.refusals.refusal.Refusal.{Refusal}
use Rattle.live_plant.specs.declared.refusals.refusal.Refusal.TheVariants.{NoMemory, StoreFault}
use Rattle.live_plant.specs.Actions.{DiskOver, Does}
use Rattle.live_plant.specs.Outside.{StoreOver, SinkOver, sink_over}
use Rattle.answers.specs.Answer.{answer_bytes}
use Rattle.answers.specs.Curves.{Counts, CurveIsPut}
use Rattle.answers.specs.declared.answer.Answer.{Answer}
use Rattle.answers.specs.declared.answer.Answer.TheVariants.{Curved}
use Rattle.answers.specs.declared.unwritten.Unwritten.TheVariants as unwritten
use Rattle.pull_cli.specs.Verdict.{OfWords}

-- all these bytes were written and the status is this, or it is 6 and a prefix of the bytes was, where the sink failed
abbrev pub Writes : SinkOver → List ℕ → ℕ → ℕ → Type 0
Writes sink bytes good status =
    ((status ≡ good) × PutsAll sink.old sink.new bytes)
    ⊎ ((status ≡ 6) × Rose sink.old.faults sink.new.faults × PutsPrefix sink.old sink.new bytes)

-- the status after bytes were written
abbrev pub IsStatusAfter : Result (Unit {0}) Failed → ℕ → ℕ → Type 0
IsStatusAfter (Ok done) good status = status ≡ good
IsStatusAfter (Err failed) good status = status ≡ 6

-- what may follow a write of FILE: its line is written in parts, which takes no memory
abbrev pub IsWrittenInParts : Refusal → Type 0
IsWrittenInParts (StoreFault file) = ⊤
IsWrittenInParts other = ⊥

-- a refusal was written, or that there is no memory where there was none for its line; a line that is known beforehand
-- or is written in parts needs none
abbrev pub WritesRefusal : SinkOver → Refusal → ℕ → Type 0
WritesRefusal sink refusal status =
    Writes sink (text_of refusal) (status_of refusal) status
    ⊎ ((IsFixed refusal → ⊥) × (IsWrittenInParts refusal → ⊥)
    × Writes sink (text_of NoMemory) (status_of NoMemory) status)

-- the rows of some first counts of a curve were written, and then that there is no memory for the next one
pub record IsCutShort (sink : SinkOver) (c : Counts) (status : ℕ) : Type 0 where
  pub between : SinkView
  pub rows : CurveIsPut c sink.old between (Err unwritten.NoMemory)
  pub line : Writes (sink_over between sink.new) (text_of NoMemory) (status_of NoMemory) status

-- the rows of a curve were written, with status 0, or some prefix where the sink failed, or those of some first counts
-- where memory ran out
abbrev pub FinishesCurve : SinkOver → Counts → ℕ → Type 0
FinishesCurve sink c status =
    ((status ≡ 0) × CurveIsPut c sink.old sink.new (Ok tt))
    ⊎ ((status ≡ 6) × CurveIsPut c sink.old sink.new (Err unwritten.Failed))
    ⊎ IsCutShort sink c status

-- what a command answers was written, with status 0, or its refusal was; only a curve takes memory when it is written
abbrev pub Finishes : SinkOver → Result Answer Refusal → ℕ → Type 0
Finishes sink (Ok (Curved counts)) status = FinishesCurve sink counts status
Finishes sink (Ok answer) status = Writes sink (answer_bytes answer) 0 status
Finishes sink (Err refusal) status = WritesRefusal sink refusal status

-- The call ends with this status: the words ask for, and answer, what the verdict says over the bytes that were read;
-- and that was written to the sink.
pub record Ends (words : List (List ℕ)) (store : StoreOver) (sink : SinkOver) (disk : DiskOver)
    (status : ℕ) : Type 0 where
  pub answer : Result Answer Refusal
  pub does : Does store disk (OfWords store.tells store.old.files (command_of words)) answer
  pub finishes : Finishes sink answer status
