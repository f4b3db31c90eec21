-- A call that has read a plant, and of the file that it resumes from a text of a state that firings reach, writes the
-- report, but for a sink that failed and memory that ran out.
use Rattle.std.proofs.Common.{◌≡◌, ◌⊎◌, ℕ, List, [], ◌++◌, refl, ap, sym, ◌∙◌, subst, append-nil, inl, inr}
use Rattle.std.specs.Prelude.{Option, Some, Result, Ok, Err}
use Rattle.std.proofs.lemmas.List.{append_cancel_left}
use Rattle.checkpoint.specs.Text.{IsTextOf}
use Rattle.checkpoint.specs.declared.format.Format.TheVariants.{Differences}
use Rattle.command_line.specs.Words.{resuming}
use Rattle.command_line.specs.declared.command.Command.{Command}
use Rattle.event_graph.specs.Reached.{Reached}
use Rattle.event_graph.specs.State.{State}
use Rattle.event_graph.specs.Table.{date_in}
use Rattle.outside_io.specs.Calls.{Read, Asked}
use Rattle.outside_io.specs.SinkView.{PutsAll}
use Rattle.line_report.specs.ReportText.{report}
use Rattle.line_runs.specs.Resume.{IsCheckpoint}
use Rattle.plant_model.specs.declared.plant.Plant.{Plant}
use Rattle.plant_model.specs.Graph.{graph}
use Rattle.live_plant.specs.Actions.{DiskOver}
use Rattle.live_plant.specs.LiveSteps.{OfPlantNamed}
use Rattle.live_plant.specs.Outside.{StoreOver, SinkOver}
use Rattle.live_plant.specs.Refusal.{status_of, text_of}
use Rattle.live_plant.specs.Steps.{Settles, LooksAt, GoesOn, Then}
use Rattle.live_plant.specs.declared.refusals.refusal.Refusal.{Refusal}
use Rattle.live_plant.specs.declared.refusals.refusal.Refusal.TheVariants.{NoMemory}
use Rattle.live_plant.proofs.OneReading.{Follows, live_read, live_one, look_one}
use Rattle.commands.specs.Reports.{IsReport, IsResumed}
use Rattle.answers.specs.declared.answer.Answer.{Answer}
use Rattle.pull_cli.specs.Ends.{Ends, Finishes, Writes, WritesRefusal}
use Rattle.pull_cli.specs.StopsAndResumes.{saved_text, Resumes, WritesReport, reported, unwritten, no_memory}
use Rattle.pull_cli.specs.Verdict.{OfWords}
use Rattle.pull_cli.proofs.WriteStatus.{whole}

-- whatever resuming these bytes answers, but for out of memory, is the report
abbrev pub ResumesToReport : Plant → List ℕ → Type 0
ResumesToReport p bytes = (answer : Result Answer Refusal) → IsResumed p bytes answer → IsReport p answer

-- a text of a state that firings reach is a checkpoint
text_is_checkpoint : (p : Plant) (s : State) (bytes : List ℕ) → Reached (graph p) s → IsTextOf (graph p) s bytes →
    IsCheckpoint (graph p) bytes
text_is_checkpoint p s bytes reached text = record { state = s; reached = reached; text = text }

-- so whatever resuming it answers is the report
pub text_resumes : (p : Plant) (s : State) (bytes : List ℕ) → Reached (graph p) s → IsTextOf (graph p) s bytes →
    ResumesToReport p bytes
text_resumes p s bytes reached text answer (inl both) = both.1
text_resumes p s bytes reached text answer (inr other) =
    absurd (other.none (text_is_checkpoint p s bytes reached text))

-- and so it is of the bytes in which the state is saved
pub saved_resumes : (p : Plant) (s : State) → Reached (graph p) s → ResumesToReport p (saved_text p s)
saved_resumes p s reached =
    text_resumes p s (saved_text p s) reached (record { format = Differences; read = tt; is = refl })

-- how a call ends, by what it has written
wrote : (p : Plant) (sink : SinkOver) (bytes : List ℕ) (good status : ℕ) →
    (status ≡ good → PutsAll sink.old sink.new bytes → WritesReport p sink status) → Writes sink bytes good status →
    WritesReport p sink status
wrote p sink bytes good status ends (inl all) = ends all.0 all.1
wrote p sink bytes good status ends (inr broke) = unwritten broke.0 broke.1

memory_written : (p : Plant) (sink : SinkOver) (status : ℕ) → WritesRefusal sink NoMemory status →
    WritesReport p sink status
memory_written p sink status (inl own) =
    wrote p sink (text_of NoMemory) (status_of NoMemory) status (λ nine written. no_memory nine) own
memory_written p sink status (inr other) =
    wrote p sink (text_of NoMemory) (status_of NoMemory) status (λ nine written. no_memory nine) other.2

memory_ends : (p : Plant) (sink : SinkOver) (answer : Result Answer Refusal) (status : ℕ) →
    answer ≡ Err NoMemory → Finishes sink answer status → WritesReport p sink status
memory_ends p sink answer status none ended =
    memory_written p sink status (subst (λ (r : Result Answer Refusal). Finishes sink r status) none ended)

report_ends : (p : Plant) (sink : SinkOver) (answer : Result Answer Refusal) (status : ℕ) → IsReport p answer →
    Finishes sink answer status → WritesReport p sink status
report_ends p sink (Ok done) status is ended =
    let bytes = report p (date_in is.rows) in
    wrote p sink bytes 0 status
    (λ zero written. reported zero (record { rows = is.rows; least = is.least; written = written }))
    (whole sink bytes done status is.written ended)
report_ends p sink (Err refusal) status is ended = absurd is.written

-- a call that has ended so, and has read so
module _ (words : List (List ℕ)) (store : StoreOver) (sink : SinkOver) (disk : DiskOver) (status : ℕ)
    (ends : Ends words store sink disk status) (p : Plant) (s : State) (reached : Reached (graph p) s)
    (from : Resumes p s words store) where
  abbrev asks : Asked
  asks = ends.does.asks

  abbrev answer : Result Answer Refusal
  answer = ends.answer

  none_left : answer ≡ Err NoMemory → WritesReport p sink status
  none_left none = memory_ends p sink answer status none ends.finishes

  all_reads : asks.reads ≡ from.read.reads ++ from.read.more
  all_reads =
      append_cancel_left store.old.asked.reads asks.reads (from.read.reads ++ from.read.more)
      (sym (ap (λ (a : Asked). a.reads) ends.does.asked) ∙ from.read.asked)

  -- the text is resumed
  on_bytes : (q : Plant) (found : List ℕ) → q ≡ p → found ≡ from.bytes →
      IsResumed q found answer ⊎ (answer ≡ Err NoMemory) → WritesReport p sink status
  on_bytes q found same own (inl is) =
      let of_plant = subst (λ (v : Plant). IsResumed v found answer) same is in
      let of_text = subst (λ (bytes : List ℕ). IsResumed p bytes answer) own of_plant in
      report_ends p sink answer status (text_resumes p s from.bytes reached from.text answer of_text) ends.finishes
  on_bytes q found same own (inr none) = none_left none

  -- behind the read of its file
  on_file : (q : Plant) → q ≡ p → (between : Result (List ℕ) Refusal) (rest : List Read) →
      Follows from.bytes [] between rest → GoesOn (λ bytes. Settles (IsResumed q bytes)) between rest answer →
      WritesReport p sink status
  on_file q same (Ok found) rest follows on = on_bytes q found same follows.0 on.1
  on_file q same (Err refusal) rest none on = none_left (on.1 ∙ ap Err none)

  looks : LooksAt from.file from.read.more (Ok from.bytes)
  looks = record { given = Ok from.bytes; one = from.found; answers = refl }

  -- behind the reads of the plant
  on_plant : (between : Result Plant Refusal) (rest : List Read) → Follows p from.read.more between rest →
      GoesOn (λ q. Then (LooksAt from.file) (λ bytes. Settles (IsResumed q bytes))) between rest answer →
      WritesReport p sink status
  on_plant (Ok q) rest follows on =
      on_file q follows.0 on.between on.after
      (look_one from.file from.read.more on.before [] on.after from.bytes on.between looks on.answers
      (append-nil from.read.more ∙ sym follows.1 ∙ on.split))
      on.goes_on
  on_plant (Err refusal) rest none on = none_left (on.1 ∙ ap Err none)

  on_reads : Then (OfPlantNamed store.tells store.old.files from.name)
      (λ q. Then (LooksAt from.file) (λ bytes. Settles (IsResumed q bytes))) asks.reads answer →
      WritesReport p sink status
  on_reads steps =
      on_plant steps.between steps.after
      (live_one from.name from.read.reads steps.before from.read.more steps.after p steps.between
      (live_read from.name from.read.reads p from.read.answers from.read.live) steps.answers.answers
      (sym all_reads ∙ steps.split))
      steps.goes_on

  on_words : OfWords store.tells store.old.files (Some (resuming from.name from.file from.workers)) asks disk answer →
      WritesReport p sink status
  on_words (inl does) = on_reads does.answers
  on_words (inr wanting) = none_left wanting.2

  pub resumes_of : WritesReport p sink status
  resumes_of =
      on_words (subst (λ (o : Option Command). OfWords store.tells store.old.files o asks disk answer) from.asked
      ends.does.answers)
