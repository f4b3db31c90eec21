-- A run whose call has ended with status 0 has ended well.
use Rattle.std.proofs.Common.{◌≡◌, ◌⊎◌, ℕ, ◌≤◌, List, [], ◌∷◌, ◌++◌, refl, ap, sym, ◌∙◌, subst, inl, inr, arith}
use Rattle.std.specs.Prelude.{Option, Some, None, Result, Ok, Err}
use Rattle.command_line.specs.Sources.{plant_at}
use Rattle.command_line.specs.Words.{command_of}
use Rattle.command_line.specs.declared.command.Command.{Command}
use Rattle.command_line.specs.declared.command.Command.TheVariants as command
use Rattle.command_line.specs.declared.command.Stop.{Stop}
use Rattle.command_line.specs.declared.disk_question.DiskQuestion.TheVariants as of_disk
use Rattle.command_line.specs.declared.file_question.FileQuestion.TheVariants as of_file
use Rattle.command_line.specs.declared.plant_question.PlantQuestion.TheVariants as of_plant
use Rattle.line_core.specs.Consistent.{firing_count}
use Rattle.outside_io.specs.Calls.{Read, Write, Asked, write_of}
use Rattle.outside_io.specs.declared.store.StoreError.{StoreError}
use Rattle.outside_io.specs.declared.store.StoreError.TheVariants as store_error
use Rattle.outside_io.specs.SinkView.{PutsAll}
use Rattle.plant_model.specs.declared.plant.Plant.{Plant}
use Rattle.plant_model.specs.Graph.{graph}
use Rattle.live_plant.specs.Checkpoints.{checkpoint_refusal}
use Rattle.live_plant.specs.Refusal.{status_of, text_of}
use Rattle.live_plant.specs.declared.refusals.refusal.Refusal.{Refusal}
use Rattle.live_plant.specs.declared.refusals.refusal.Refusal.TheVariants.{Usage, Refused, Faults, Dead, StoreFault}
use Rattle.live_plant.specs.declared.refusals.refusal.Refusal.TheVariants.{NotReached, Varying, NoMemory, TooLong}
use Rattle.live_plant.specs.declared.refusals.refusal.Refusal.TheVariants.{NotFollowed, Disk, NoCount, NothingSaved}
use Rattle.live_plant.specs.declared.refusals.refusal.Refusal.TheVariants.{NotEdited, NoSingleCount, NoDate, Late}
use Rattle.live_plant.specs.declared.refusals.refusal.Refusal.TheVariants.{TooLarge}
use Rattle.live_plant.proofs.OneReading.{read_live}
use Rattle.live_plant.specs.Actions.{Action, DiskOver, Plainly, DoesOn, ThenDoes, with_asked, Changes}
use Rattle.live_plant.specs.Outside.{StoreOver, SinkOver}
use Rattle.live_plant.specs.LiveSteps.{OfPlantNamed}
use Rattle.live_plant.specs.Steps.{Step, Settles, LooksAt, GoesOn, Then}
use Rattle.commands.specs.Reports.{IsReport, IsResumed, IsNoCheckpoint}
use Rattle.line_report.specs.ReportText.{report}
use Rattle.event_graph.specs.Table.{date_in}
use Rattle.commands.specs.Saving.{AsksNothing, AnswersWrite, Ends as EndsFirst, IsResumedOf, ResumesSaved, ResumesSlots}
use Rattle.commands.specs.Saving.{RunsUntil, RunsWithSlots, Saves, Stops}
use Rattle.answers.specs.declared.answer.Answer.{Answer}
use Rattle.answers.specs.declared.answer.Answer.TheVariants.{Stopped}
use Rattle.pull_cli.specs.Ends.{Ends, Finishes, Writes, WritesRefusal}
use Rattle.pull_cli.proofs.ResumeLemmas.{resumes_of}
use Rattle.pull_cli.proofs.WriteStatus.{whole}
use Rattle.pull_cli.specs.RunReports.{run_of, IsPlantRead, HasReported, Reports, RunReports}
use Rattle.pull_cli.specs.StopsAndResumes.{saved_text, stopped_line, HasSaved, ReportsOrSaves, StopsAndResumes}
use Rattle.pull_cli.specs.StopsWhereAsked.{ReportsFirst, SavesFirstEnd, EndsWhereAsked, StopsWhereAsked}
use Rattle.pull_cli.specs.Verdict.{OfCommand, OfWords}

-- bytes that a call wrote which ends with status 0: all of them, and their status is 0
zero_writes : (sink : SinkOver) (bytes : List ℕ) (good : ℕ) → Writes sink bytes good 0 →
    (good ≡ 0) × PutsAll sink.old sink.new bytes
zero_writes sink bytes good (inl all) = (sym all.0, all.1)
zero_writes sink bytes good (inr broke) = absurd (omega (arith, broke.0))

-- no refusal has status 0
above_zero : (refusal : Refusal) → 1 ≤ status_of refusal
above_zero Usage = omega arith
above_zero (Refused error) = omega arith
above_zero (Faults lines) = omega arith
above_zero (Dead labels) = omega arith
above_zero (StoreFault file) = omega arith
above_zero (NotReached line) = omega arith
above_zero (Varying label) = omega arith
above_zero NoMemory = omega arith
above_zero (TooLong file) = omega arith
above_zero (NotFollowed line) = omega arith
above_zero Disk = omega arith
above_zero (NoCount job wait) = omega arith
above_zero NothingSaved = omega arith
above_zero (NotEdited line) = omega arith
above_zero NoSingleCount = omega arith
above_zero (NoDate label job) = omega arith
above_zero (Late job wait) = omega arith
above_zero (TooLarge bars) = omega arith

not_refused : (sink : SinkOver) (refusal : Refusal) → WritesRefusal sink refusal 0 → ⊥
not_refused sink refusal (inl own) =
    let wrote = zero_writes sink (text_of refusal) (status_of refusal) own in omega (arith, wrote.0, above_zero refusal)
not_refused sink refusal (inr memory) =
    let nine = zero_writes sink (text_of NoMemory) (status_of NoMemory) memory.2 in omega (arith, nine.0)

-- so none was written
no_refusal : (sink : SinkOver) (answer : Result Answer Refusal) (refusal : Refusal) → Finishes sink answer 0 →
    answer ≡ Err refusal → ⊥
no_refusal sink answer refusal ended is =
    not_refused sink refusal (subst (λ (r : Result Answer Refusal). Finishes sink r 0) is ended)

-- a report that was written
report_written : (p : Plant) (sink : SinkOver) (answer : Result Answer Refusal) → Finishes sink answer 0 →
    IsReport p answer → HasReported p sink
report_written p sink (Ok done) ended is = record {
  rows = is.rows;
  least = is.least;
  written = (zero_writes sink (report p (date_in is.rows)) 0
      (whole sink (report p (date_in is.rows)) done 0 is.written ended)).1;
}
report_written p sink (Err refusal) ended is = absurd is.written

-- steps that write nothing, as a step and then an action that writes nothing
on_plainly : {A B : Type 0} (next : A → Step B) (between : Result A Refusal) (asked : Asked) (after : List Read)
    (disk : DiskOver) (answer : Result B Refusal) → asked.writes ≡ [] → disk.new ≡ disk.old →
    GoesOn next between after answer → DoesOn (λ x. Plainly (next x)) between
    (record asked { reads = after }) disk answer
on_plainly next (Ok x) asked after disk answer unwritten untouched on =
    record { unwritten = unwritten; untouched = untouched; answers = on }
on_plainly next (Err refusal) asked after disk answer unwritten untouched on = (
  ap (λ (reads : List Read). record { reads = reads; writes = asked.writes }) on.0 ∙
      ap (λ (writes : List Write). record { reads = []; writes = writes }) unwritten,
  untouched,
  on.1,
)

plainly_then : {A B : Type 0} (first : Step A) (next : A → Step B) (asked : Asked) (disk : DiskOver)
    (answer : Result B Refusal) → Plainly (Then first next) asked disk answer →
    ThenDoes first (λ x. Plainly (next x)) asked disk answer
plainly_then first next asked disk answer plain = record {
  before = plain.answers.before;
  after = plain.answers.after;
  split = plain.answers.split;
  between = plain.answers.between;
  answers = plain.answers.answers;
  does_on = on_plainly next plain.answers.between asked plain.answers.after disk answer plain.unwritten
      plain.untouched plain.answers.goes_on;
}

-- what a call read first, where that is the live plant of this plant file
pub plant_read : (store : StoreOver) (asks : Asked) → store.new.asked ≡ with_asked store.old.asked asks →
    (name : List ℕ) (p : Plant) (before after : List Read) → asks.reads ≡ before ++ after →
    OfPlantNamed store.tells store.old.files name before (Ok p) → IsPlantRead p name store
plant_read store asks asked name p before after split answered =
    let steps = read_live name before p answered.answers in
    record {
      reads = before;
      more = after;
      asked = ap (λ (a : Asked). a.reads) asked ∙ ap (λ (reads : List Read). store.old.asked.reads ++ reads) split;
      answers = steps.answers;
      live = steps.live;
      of_files = answered.of_files;
    }

-- a call that answered this and ended with status 0, which asked this of the store
module _ (store : StoreOver) (sink : SinkOver) (disk : DiskOver) (answer : Result Answer Refusal)
    (ended : Finishes sink answer 0) (asks : Asked) (asked : store.new.asked ≡ with_asked store.old.asked asks)
    (changes : Changes store asks.writes) where
  -- a plant that was read, of which this holds
  record OfRead (name : List ℕ) (P : Plant → Type 0) : Type 0 where
    pub plant : Plant
    pub read : IsPlantRead plant name store
    pub holds : P plant

  on_read : (name : List ℕ) (P : Plant → Type 0) (next : Plant → Action Answer) (between : Result Plant Refusal)
      (before after : List Read) → asks.reads ≡ before ++ after →
      OfPlantNamed store.tells store.old.files name before between →
      DoesOn next between (record asks { reads = after }) disk answer →
      ((p : Plant) → next p (record asks { reads = after }) disk answer → P p) → OfRead name P
  on_read name P next (Ok p) before after split first on go =
      record { plant = p; read = plant_read store asks asked name p before after split first; holds = go p on }
  on_read name P next (Err refusal) before after split first on go = absurd (no_refusal sink answer refusal ended on.2)

  -- by what was done with the plant
  then_holds : (name : List ℕ) (P : Plant → Type 0) (next : Plant → Action Answer) →
      ThenDoes (OfPlantNamed store.tells store.old.files name) next asks disk answer →
      ((p : Plant) (after : List Read) → next p (record asks { reads = after }) disk answer → P p) → OfRead name P
  then_holds name P next both go =
      on_read name P next both.between both.before both.after both.split both.answers both.does_on
      (λ p on. go p both.after on)

  -- a run has reported
  then_reports : (plant name : List ℕ) → plant ≡ name → (next : Plant → Action Answer) →
      ThenDoes (OfPlantNamed store.tells store.old.files plant) next asks disk answer →
      ((p : Plant) (after : List Read) → next p (record asks { reads = after }) disk answer → HasReported p sink) →
      Reports name store sink
  then_reports plant name same next both go =
      let of = then_holds plant (λ p. HasReported p sink) next both go in
      subst (λ (n : List ℕ). Reports n store sink) same (record {
        plant = of.plant;
        read = of.read;
        reported = of.holds;
      })

  -- what settles on a report
  settled_reported : (p : Plant) → IsReport p answer ⊎ (answer ≡ Err NoMemory) → HasReported p sink
  settled_reported p (inl is) = report_written p sink answer ended is
  settled_reported p (inr wanting) = absurd (no_refusal sink answer NoMemory ended wanting)

  -- what is resumed
  not_checkpoint : (p : Plant) (bytes : List ℕ) → IsNoCheckpoint p bytes answer → ⊥
  not_checkpoint p bytes other =
      no_refusal sink answer (checkpoint_refusal (graph p) other.error) ended other.says

  resumed_reported : (p : Plant) (bytes : List ℕ) → IsResumed p bytes answer → HasReported p sink
  resumed_reported p bytes (inl both) = report_written p sink answer ended both.1
  resumed_reported p bytes (inr other) = absurd (not_checkpoint p bytes other)

  settled_resumed : (p : Plant) (bytes : List ℕ) → IsResumed p bytes answer ⊎ (answer ≡ Err NoMemory) →
      HasReported p sink
  settled_resumed p bytes (inl is) = resumed_reported p bytes is
  settled_resumed p bytes (inr wanting) = absurd (no_refusal sink answer NoMemory ended wanting)

  file_on : (p : Plant) (name : List ℕ) (between : Result (List ℕ) Refusal) (before after : List Read) →
      LooksAt name before between → GoesOn (λ bytes. Settles (IsResumed p bytes)) between after answer →
      HasReported p sink
  file_on p name (Ok bytes) before after first on = settled_resumed p bytes on.1
  file_on p name (Err refusal) before after first on = absurd (no_refusal sink answer refusal ended on.1)

  file_resumed : (p : Plant) (name : List ℕ) (reads : List Read) →
      Then (LooksAt name) (λ bytes. Settles (IsResumed p bytes)) reads answer → HasReported p sink
  file_resumed p name reads steps = file_on p name steps.between steps.before steps.after steps.answers steps.goes_on

  slots_content : (p : Plant) (saved : Option (List ℕ)) → IsResumedOf p saved answer → HasReported p sink
  slots_content p None is = absurd (no_refusal sink answer NothingSaved ended is)
  slots_content p (Some bytes) is = resumed_reported p bytes is

  -- the disk failed, or there was no memory
  no_disk : (answer ≡ Err Disk) ⊎ (answer ≡ Err NoMemory) → ⊥
  no_disk (inl failed) = no_refusal sink answer Disk ended failed
  no_disk (inr wanting) = no_refusal sink answer NoMemory ended wanting

  slots_resumed : (p : Plant) → ResumesSaved p disk answer ⊎ ((answer ≡ Err Disk) ⊎ (answer ≡ Err NoMemory)) →
      HasReported p sink
  slots_resumed p (inl saved) = slots_content p saved.saved saved.answers
  slots_resumed p (inr failed) = absurd (no_disk failed)

  slots_saved : (p : Plant) (n : ℕ) → Saves p n disk answer ⊎ ((answer ≡ Err Disk) ⊎ (answer ≡ Err NoMemory)) →
      HasReported p sink
  slots_saved p n (inl saves) = report_written p sink answer ended saves.report
  slots_saved p n (inr failed) = absurd (no_disk failed)

  -- what stopped
  write_done : (file : List ℕ) (count : ℕ) (given : Result (Unit {0}) StoreError) →
      AnswersWrite file count given answer → (given ≡ Ok tt) × (answer ≡ Ok (Stopped count))
  write_done file count (Ok done) answers = (refl, answers)
  write_done file count (Err store_error.Failed) answers =
      absurd (no_refusal sink answer (StoreFault file) ended answers)
  write_done file count (Err store_error.TooLong) answers = absurd answers
  write_done file count (Err store_error.NoMemory) answers = absurd (no_refusal sink answer NoMemory ended answers)

  saves_first : (p : Plant) (workers : ℕ) (stop : Stop) (after : List Read) →
      Stops p workers stop.after stop.save (record asks { reads = after }) answer →
      SavesFirstEnd p workers stop store sink
  saves_first p workers stop after stops =
      let s = stops.state in
      let done = write_done stop.save (firing_count s) stops.saved.given stops.saved.answers in
      let one : asks.writes ≡ write_of stop.save (saved_text p s) (Ok tt) ∷ [] =
      ap (λ (a : Asked). a.writes) stops.saved.writes ∙
      ap (λ (given : Result (Unit {0}) StoreError). write_of stop.save (saved_text p s) given ∷ []) done.0 in
      record {
        saved = record {
          state = s;
          stopped = record {
            enough = stops.first_end.enough;
            not_all = stops.resumed.not_all;
            reached = stops.resumed.reached;
            circuits = stops.resumed.circuits;
          };
          fits = stops.fits;
          asked = ap (λ (a : Asked). a.writes) asked ∙ ap (λ (writes : List Write). store.old.asked.writes ++ writes)
              one;
          saved = (subst (Changes store) one changes).leaves;
          written = (zero_writes sink (stopped_line (firing_count s)) 0
              (subst (λ (r : Result Answer Refusal). Finishes sink r 0) done.1 ended)).1;
        };
        resumed = stops.resumed;
        first_end = stops.first_end;
        count = stops.stop;
      }

  stops_first : (p : Plant) (workers : ℕ) (stop : Stop) (after : List Read) →
      Stops p workers stop.after stop.save (record asks { reads = after }) answer ⊎
      (EndsFirst p workers stop.after (record asks { reads = after }) answer ⊎
      AsksNothing (record asks { reads = after }) answer) →
      ReportsFirst p workers stop.after sink ⊎ SavesFirstEnd p workers stop store sink
  stops_first p workers stop after (inl stops) = inr (saves_first p workers stop after stops)
  stops_first p workers stop after (inr (inl ends)) =
      inl (record { reported = report_written p sink answer ended ends.report; first = ends.first; short = ends.short })
  stops_first p workers stop after (inr (inr wanting)) = absurd (no_refusal sink answer NoMemory ended wanting.1)

  -- a run to the end
  run_well : (plant name : List ℕ) → plant ≡ name →
      Plainly (Then (OfPlantNamed store.tells store.old.files plant) (λ p. Settles (IsReport p))) asks disk answer →
      Reports name store sink
  run_well plant name same does =
      then_reports plant name same (λ p. Plainly (Settles (IsReport p)))
      (plainly_then (OfPlantNamed store.tells store.old.files plant) (λ p. Settles (IsReport p)) asks disk answer does)
      (λ p after on. settled_reported p on.answers.1)

  -- each command that runs a plant and isn't asked to stop
  of_run : (c : Command) (name : List ℕ) → run_of c ≡ Some name →
      OfCommand store.tells store.old.files c asks disk answer → Reports name store sink
  of_run (command.OnPlant plant (of_plant.Run workers)) name is does =
      let same : plant.file ≡ name = cc in run_well plant.file name same does
  of_run (command.OnPlant plant (of_plant.RunRoom room workers)) name is does =
      let same : plant.file ≡ name = cc in run_well plant.file name same does
  of_run (command.Standing plant workers) name is does =
      let same : plant.file ≡ name = cc in run_well plant.file name same does
  of_run (command.OnDisk plant (of_disk.RunSlots every workers)) name is does =
      let same : plant.file ≡ name = cc in
      then_reports plant.file name same (λ p. RunsWithSlots p every) does (λ p after on. slots_saved p every on.answers)
  of_run (command.OnDisk plant (of_disk.ResumeSlots workers)) name is does =
      let same : plant.file ≡ name = cc in
      then_reports plant.file name same ResumesSlots does (λ p after on. slots_resumed p on.answers)
  of_run (command.OnFile plant saved (of_file.Resume workers)) name is does =
      let same : plant.file ≡ name = cc in
      then_reports plant.file name same (λ p. Plainly (Then (LooksAt saved) (λ bytes. Settles (IsResumed p bytes))))
      (plainly_then (OfPlantNamed store.tells store.old.files plant.file)
      (λ p. Then (LooksAt saved) (λ bytes. Settles (IsResumed p bytes))) asks disk answer does)
      (λ p after on. file_resumed p saved after on.answers)
  of_run other name is does = absurd (cc)

  -- and one that is asked to
  of_stop : (name : List ℕ) (workers : ℕ) (stop : Stop) →
      OfCommand store.tells store.old.files (command.Stopping (plant_at name) workers stop) asks disk answer →
      EndsWhereAsked name workers stop store sink
  of_stop name workers stop does =
      let of =
      then_holds name (λ p. ReportsFirst p workers stop.after sink ⊎ SavesFirstEnd p workers stop store sink)
      (λ p. RunsUntil p workers stop.after stop.save) does (λ p after on. stops_first p workers stop after on.answers) in
      record { plant = of.plant; read = of.read; done = of.holds }

  -- what the words ask for
  done_whole : (c : Command) → OfWords store.tells store.old.files (Some c) asks disk answer →
      OfCommand store.tells store.old.files c asks disk answer
  done_whole c (inl does) = does
  done_whole c (inr wanting) = absurd (no_refusal sink answer NoMemory ended wanting.2)

-- what such a run has done, without where it ended
reported_or_saved : (p : Plant) (workers : ℕ) (stop : Stop) (store : StoreOver) (sink : SinkOver) →
    ReportsFirst p workers stop.after sink ⊎ SavesFirstEnd p workers stop store sink →
    HasReported p sink ⊎ HasSaved p stop store sink
reported_or_saved p workers stop store sink (inl first) = inl first.reported
reported_or_saved p workers stop store sink (inr saves) = inr saves.saved

reports_or_saves : (name : List ℕ) (workers : ℕ) (stop : Stop) (store : StoreOver) (sink : SinkOver) →
    EndsWhereAsked name workers stop store sink → ReportsOrSaves name stop store sink
reports_or_saves name workers stop store sink ends = record {
  plant = ends.plant;
  read = ends.read;
  done = reported_or_saved ends.plant workers stop store sink ends.done;
}

-- both halves of the headline, and where a run stops, follow from how the call ends
module _ (words : List (List ℕ)) (store : StoreOver) (sink : SinkOver) (disk : DiskOver) (status : ℕ)
    (ends : Ends words store sink disk status) where
  finished : status ≡ 0 → Finishes sink ends.answer 0
  finished zero = subst (Finishes sink ends.answer) zero ends.finishes

  done : (c : Command) → command_of words ≡ Some c → status ≡ 0 →
      OfCommand store.tells store.old.files c ends.does.asks disk ends.answer
  done c is zero =
      done_whole store sink disk ends.answer (finished zero) ends.does.asks ends.does.asked ends.does.changes c
      (subst (λ (o : Option Command). OfWords store.tells store.old.files o ends.does.asks disk ends.answer) is
      ends.does.answers)

  pub reports_of : RunReports words store sink status
  reports_of c name is runs zero =
      of_run store sink disk ends.answer (finished zero) ends.does.asks ends.does.asked ends.does.changes c name runs
      (done c is zero)

  pub stops_where_of : StopsWhereAsked words store sink status
  stops_where_of name workers stop is zero =
      of_stop store sink disk ends.answer (finished zero) ends.does.asks ends.does.asked ends.does.changes name workers
      stop (done (command.Stopping (plant_at name) workers stop) is zero)

  pub stops_of : StopsAndResumes words store sink status
  stops_of = record {
    stops = λ name workers stop is zero. reports_or_saves name workers stop store sink
        (stops_where_of name workers stop is zero);
    resumes = resumes_of words store sink disk status ends;
  }
