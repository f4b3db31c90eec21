-- Which file a call has changed, by what it answered.
use Rattle.std.proofs.Common.{◌≡◌, ◌≢◌, ◌⊎◌, ℕ, List, [], ◌++◌, ap, sym, subst, append-nil, inl, inr}
use Rattle.std.proofs.Common.{⊎_elim, arith}
use Rattle.std.specs.Prelude.{Option, Some, None, Result, Ok, Err, IsTrue}
use Rattle.command_line.specs.Sources.{plant_at}
use Rattle.command_line.specs.Words.{command_of}
use Rattle.command_line.specs.declared.command.Command.{Command}
use Rattle.command_line.specs.declared.command.Command.TheVariants as command
use Rattle.command_line.specs.declared.command.Stop.{Stop}
use Rattle.command_line.specs.declared.disk_question.DiskQuestion.TheVariants as of_disk
use Rattle.line_core.specs.Consistent.{firing_count}
use Rattle.outside_io.specs.Calls.{Read, Asked, write_of, none_asked}
use Rattle.outside_io.specs.Contents.{IsTorn}
use Rattle.outside_io.specs.SinkView.{PutsAll}
use Rattle.outside_io.specs.declared.store.StoreError.{StoreError}
use Rattle.outside_io.specs.declared.store.StoreError.TheVariants as store_error
use Rattle.plant_model.specs.declared.plant.Plant.{Plant}
use Rattle.live_plant.specs.declared.refusals.refusal.Refusal.{Refusal}
use Rattle.live_plant.specs.declared.refusals.refusal.Refusal.TheVariants.{StoreFault}
use Rattle.live_plant.specs.Actions.{Action, DiskOver, DoesOn, with_asked, LeavesFile, WritesOne, Changes}
use Rattle.live_plant.specs.Outside.{StoreOver, SinkOver}
use Rattle.live_plant.specs.LiveSteps.{OfPlantNamed}
use Rattle.commands.specs.Saving.{AnswersWrite, ResumesSlots, RunsUntil, RunsWithSlots, Stops}
use Rattle.answers.specs.declared.answer.Answer.{Answer}
use Rattle.pull_cli.specs.Ends.{Ends, Finishes, Writes, WritesRefusal}
use Rattle.pull_cli.specs.Files.{save_of, LeavesSaved, StaysOrSaves, FilesStay}
use Rattle.pull_cli.specs.RunReports.{IsPlantRead}
use Rattle.pull_cli.specs.StopsAndResumes.{saved_text, stopped_line}
use Rattle.pull_cli.specs.Verdict.{OfCommand, OfWords}
use Rattle.pull_cli.proofs.HeadlineLemmas.{plant_read}

-- no writes where nothing was asked
unwritten : (asks : Asked) (after : List Read) → record asks { reads = after } ≡ none_asked → asks.writes ≡ []
unwritten asks after none = ap (λ (a : Asked). a.writes) none

-- what the status says of a file, where the line of a stop was written, and where that of a failed write was
abbrev pub SaysOfFile : SinkOver → ℕ → Option (List ℕ) → Option (List ℕ) → List ℕ → ℕ → Type 0
SaysOfFile sink status old new bytes count =
    LeavesSaved status old new bytes × (status ≡ 0 → PutsAll sink.old sink.new (stopped_line count))

stop_says : (sink : SinkOver) (status count : ℕ) (old new : Option (List ℕ)) (bytes : List ℕ) →
    Writes sink (stopped_line count) 0 status → new ≡ Some bytes → SaysOfFile sink status old new bytes count
stop_says sink status count old new bytes (inl all) is = (inl (all.0, is), λ zero. all.1)
stop_says sink status count old new bytes (inr broke) is =
    (inr (inr broke.0, inr (bytes, [], sym (append-nil bytes), is)), λ zero. absurd (omega (arith, broke.0, zero)))

fault_says : (sink : SinkOver) (status count : ℕ) (file : List ℕ) (old new : Option (List ℕ)) (bytes : List ℕ) →
    WritesRefusal sink (StoreFault file) status → IsTorn old new bytes → SaysOfFile sink status old new bytes count
fault_says sink status count file old new bytes (inl (inl all)) torn =
    let five : status ≡ 5 = all.0 in
    (inr (inl five, torn), λ zero. absurd (omega (arith, five, zero)))
fault_says sink status count file old new bytes (inl (inr broke)) torn =
    (inr (inr broke.0, torn), λ zero. absurd (omega (arith, broke.0, zero)))
fault_says sink status count file old new bytes (inr wanting) torn = absurd (wanting.1 tt)

-- a status of a call that may have written FILE
no_other_status : (status : ℕ) (old new : Option (List ℕ)) (bytes : List ℕ) → status ≢ 0 → status ≢ 5 → status ≢ 6 →
    LeavesSaved status old new bytes → ⊥
no_other_status status old new bytes not_0 not_5 not_6 (inl done) = not_0 done.0
no_other_status status old new bytes not_0 not_5 not_6 (inr (inl five, torn)) = not_5 five
no_other_status status old new bytes not_0 not_5 not_6 (inr (inr six, torn)) = not_6 six

-- a call that answered this and ended with this status, which asked this of the store, and whose files are known
module _ (store : StoreOver) (sink : SinkOver) (disk : DiskOver) (answer : Result Answer Refusal) (status : ℕ)
    (ended : Finishes sink answer status) (asks : Asked) (asked : store.new.asked ≡ with_asked store.old.asked asks)
    (changes : Changes store asks.writes) (known : IsTrue store.tells) where
  -- a run of this plant file stopped, and wrote its state
  record HasStopped (name : List ℕ) (workers : ℕ) (stop : Stop) : Type 0 where
    pub plant : Plant
    pub read : IsPlantRead plant name store
    pub after : List Read
    pub stops : Stops plant workers stop.after stop.save (record asks { reads = after }) answer

  -- so did the run that is this command
  abbrev StopsIn : Command → Type 0
  StopsIn (command.Stopping plant workers stop) = HasStopped plant.file workers stop
  StopsIn other = ⊥

  none_written : asks.writes ≡ [] → (q : List ℕ) → store.new.files q ≡ store.old.files q
  none_written none = subst (Changes store) none changes known

  -- a step, and then an action that writes nothing
  on_unwritten : (next : Plant → Action Answer) (between : Result Plant Refusal) (after : List Read) →
      DoesOn next between (record asks { reads = after }) disk answer →
      ((p : Plant) → next p (record asks { reads = after }) disk answer → asks.writes ≡ []) → asks.writes ≡ []
  on_unwritten next (Ok p) after on go = go p on
  on_unwritten next (Err refusal) after on go = unwritten asks after on.0

  -- a run that is asked to stop
  until_writes : (name : List ℕ) (workers : ℕ) (stop : Stop) (p : Plant) (after : List Read) →
      IsPlantRead p name store → RunsUntil p workers stop.after stop.save (record asks { reads = after }) disk answer →
      (asks.writes ≡ []) ⊎ HasStopped name workers stop
  until_writes name workers stop p after read runs =
      ⊎_elim (λ stops. inr (record { plant = p; read = read; after = after; stops = stops }))
      (λ whole. inl (⊎_elim (λ ended_first. unwritten asks after ended_first.nothing)
      (λ wanting. unwritten asks after wanting.0) whole))
      runs.answers

  stop_writes : (name : List ℕ) (workers : ℕ) (stop : Stop) (between : Result Plant Refusal)
      (before after : List Read) → asks.reads ≡ before ++ after →
      OfPlantNamed store.tells store.old.files name before between →
      DoesOn (λ p. RunsUntil p workers stop.after stop.save) between (record asks { reads = after }) disk answer →
      (asks.writes ≡ []) ⊎ HasStopped name workers stop
  stop_writes name workers stop (Ok p) before after split first on =
      until_writes name workers stop p after (plant_read store asks asked name p before after split first) on
  stop_writes name workers stop (Err refusal) before after split first on = inl (unwritten asks after on.0)

  -- what each command wrote
  writes_of : (c : Command) → OfCommand store.tells store.old.files c asks disk answer → (asks.writes ≡ []) ⊎ StopsIn c
  writes_of (command.Stopping plant workers stop) does =
      stop_writes plant.file workers stop does.between does.before does.after does.split does.answers does.does_on
  writes_of (command.OnDisk plant (of_disk.RunSlots every workers)) does =
      inl (on_unwritten (λ p. RunsWithSlots p every) does.between does.after does.does_on
      (λ p on. unwritten asks does.after on.nothing))
  writes_of (command.OnDisk plant (of_disk.ResumeSlots workers)) does =
      inl (on_unwritten ResumesSlots does.between does.after does.does_on
      (λ p on. unwritten asks does.after on.nothing))
  writes_of other does = inl does.unwritten

  writes_of_words : (c : Command) → OfWords store.tells store.old.files (Some c) asks disk answer →
      (asks.writes ≡ []) ⊎ StopsIn c
  writes_of_words c (inl does) = writes_of c does
  writes_of_words c (inr wanting) = inl (ap (λ (a : Asked). a.writes) wanting.0)

  -- what was written where a run stopped
  state_written : (name : List ℕ) (workers : ℕ) (stop : Stop) (s : HasStopped name workers stop) →
      WritesOne store (write_of stop.save (saved_text s.plant s.stops.state) s.stops.saved.given)
  state_written name workers stop s =
      subst (Changes store) (ap (λ (a : Asked). a.writes) s.stops.saved.writes) changes

  -- files but the one in which the run saves
  others_of : (c : Command) → (asks.writes ≡ []) ⊎ StopsIn c → (q : List ℕ) → save_of (Some c) ≢ Some q →
      store.new.files q ≡ store.old.files q
  others_of c (inl none) q other = none_written none q
  others_of (command.Stopping plant workers stop) (inr s) q other =
      (state_written plant.file workers stop s).others_stay known q
      (λ same. other (ap (λ (n : List ℕ). Some n) (sym same)))
  others_of c (inr s) q other = absurd s

  others : (w : Option Command) → OfWords store.tells store.old.files w asks disk answer → (q : List ℕ) →
      save_of w ≢ Some q → store.new.files q ≡ store.old.files q
  others None of q other = none_written (ap (λ (a : Asked). a.writes) of.0) q
  others (Some c) of q other = others_of c (writes_of_words c of) q other

  -- and that one
  left : (file bytes : List ℕ) (count : ℕ) (given : Result (Unit {0}) StoreError) →
      LeavesFile store.tells store.old.files store.new.files file bytes given → AnswersWrite file count given answer →
      (store.new.files file ≡ store.old.files file) ⊎ SaysOfFile sink status (store.old.files file)
      (store.new.files file) bytes count
  left file bytes count (Ok done) leaves answers =
      inr (stop_says sink status count (store.old.files file) (store.new.files file) bytes
      (subst (λ (r : Result Answer Refusal). Finishes sink r status) answers ended) (leaves known))
  left file bytes count (Err store_error.Failed) leaves answers =
      inr (fault_says sink status count file (store.old.files file) (store.new.files file) bytes
      (subst (λ (r : Result Answer Refusal). Finishes sink r status) answers ended) (leaves known))
  left file bytes count (Err store_error.TooLong) leaves answers = absurd answers
  left file bytes count (Err store_error.NoMemory) leaves answers = inl (leaves known)

  saved_in : (name : List ℕ) (workers : ℕ) (stop : Stop) → HasStopped name workers stop →
      StaysOrSaves name workers stop store sink status
  saved_in name workers stop s =
      ⊎_elim (λ same. inl same)
      (λ says. inr (record {
        plant = s.plant;
        read = s.read;
        state = s.stops.state;
        stopped = s.stops.resumed;
        first_end = s.stops.first_end;
        count = s.stops.stop;
        leaves = says.0;
        says = says.1;
      }))
      (left stop.save (saved_text s.plant s.stops.state) (firing_count s.stops.state) s.stops.saved.given
      (state_written name workers stop s).leaves s.stops.saved.answers)

  saved_so : (name : List ℕ) (workers : ℕ) (stop : Stop) →
      (asks.writes ≡ []) ⊎ HasStopped name workers stop → StaysOrSaves name workers stop store sink status
  saved_so name workers stop (inl none) = inl (none_written none stop.save)
  saved_so name workers stop (inr s) = saved_in name workers stop s

  saved : (w : Option Command) → OfWords store.tells store.old.files w asks disk answer →
      (name : List ℕ) (workers : ℕ) (stop : Stop) → w ≡ Some (command.Stopping (plant_at name) workers stop) →
      StaysOrSaves name workers stop store sink status
  saved w of name workers stop is =
      saved_so name workers stop
      (writes_of_words (command.Stopping (plant_at name) workers stop)
      (subst (λ (o : Option Command). OfWords store.tells store.old.files o asks disk answer) is of))

  stays : (name : List ℕ) (workers : ℕ) (stop : Stop) → status ≢ 0 → status ≢ 5 → status ≢ 6 →
      StaysOrSaves name workers stop store sink status → store.new.files stop.save ≡ store.old.files stop.save
  stays name workers stop not_0 not_5 not_6 (inl same) = same
  stays name workers stop not_0 not_5 not_6 (inr s) =
      absurd (no_other_status status (store.old.files stop.save) (store.new.files stop.save) (saved_text s.plant s.state)
      not_0 not_5 not_6 s.leaves)

  file_of : (w : Option Command) → OfWords store.tells store.old.files w asks disk answer → (q : List ℕ) →
      save_of w ≡ Some q → status ≢ 0 → status ≢ 5 → status ≢ 6 → store.new.files q ≡ store.old.files q
  file_of (Some (command.Stopping plant workers stop)) of q is not_0 not_5 not_6 =
      let same : stop.save ≡ q = cc in
      subst (λ (f : List ℕ). store.new.files f ≡ store.old.files f) same
      (stays plant.file workers stop not_0 not_5 not_6 (saved_so plant.file workers stop
      (writes_of_words (command.Stopping plant workers stop) of)))
  file_of other of q is not_0 not_5 not_6 = absurd (cc)

-- the files, by how the call ends
pub files_of : (words : List (List ℕ)) (store : StoreOver) (sink : SinkOver) (disk : DiskOver) (status : ℕ) →
    Ends words store sink disk status → FilesStay words store sink status
files_of words store sink disk status ends =
    let did = ends.does in
    record {
      others_stay = λ known q other. others store sink disk ends.answer status ends.finishes did.asks did.asked
          did.changes known (command_of words) did.answers q other;
      file_stays = λ known q is not_0 not_5 not_6. file_of store sink disk ends.answer status ends.finishes did.asks
          did.asked did.changes known (command_of words) did.answers q is not_0 not_5 not_6;
      stays_or_saves = λ known name workers stop is.
          saved store sink disk ends.answer status ends.finishes did.asks did.asked did.changes known
          (command_of words) did.answers name workers stop is;
    }
