-- How a call ends that resumes what a run has saved.
use Rattle.std.proofs.Common.{◌≡◌, ◌⊎◌, ℕ, ◌≤◌, Bool, true, if◌then◌else◌, List, [], ◌++◌, length, ap, sym, ◌∙◌, subst}
use Rattle.std.proofs.Common.{inl, inr, arith}
use Rattle.std.specs.Prelude.{Option, Some, Result, Ok, Err, IfErr, All, Any, ⊤}
use Rattle.std.proofs.Math.Seq.{take-append_seam}
use Rattle.std.proofs.lemmas.List.{append_cancel_left}
use Rattle.std.proofs.lemmas.List.Elements.{All-take}
use Rattle.line_base.specs.Limits.{most_file_bytes, most_checkpoint_bytes}
use Rattle.line_base.specs.Text.{is_checkpoint_name}
use Rattle.command_line.specs.declared.command.Command.{Command}
use Rattle.command_line.specs.Words.{resuming}
use Rattle.command_line.specs.declared.command.Stop.{Stop}
use Rattle.event_graph.specs.Live.{IsLive}
use Rattle.line_graph.specs.DeadLabels.{AreDead}
use Rattle.outside_io.specs.Calls.{Read, Write, Asked}
use Rattle.plant_file.specs.PlantOfFiles.{plant_of}
use Rattle.plant_model.specs.declared.error.PlantError.{PlantError}
use Rattle.plant_model.specs.declared.plant.Plant.{Plant}
use Rattle.plant_model.specs.Graph.{graph}
use Rattle.live_plant.specs.Refusal.{status_of, text_of}
use Rattle.live_plant.specs.declared.refusals.refusal.Refusal.{Refusal}
use Rattle.live_plant.specs.declared.refusals.refusal.Refusal.TheVariants.{Dead, NoMemory, Refused, StoreFault}
use Rattle.live_plant.specs.Actions.{HasCause, IsFailedWrite}
use Rattle.live_plant.specs.Outside.{limit_of, IsOfFile}
use Rattle.live_plant.specs.LiveSteps.{OfPlantNamed, IsOfPlant}
use Rattle.live_plant.specs.Steps.{GoesOn, LooksAt, Settles, Then}
use Rattle.live_plant.proofs.OneReading.{live_read, not_dead}
use Rattle.live_plant.proofs.PlantsOfFiles.{then_leads, looked}
use Rattle.commands.specs.Reports.{IsReport, IsResumed}
use Rattle.event_graph.specs.Table.{date_in}
use Rattle.line_report.specs.ReportText.{report}
use Rattle.answers.specs.declared.answer.Answer.{Answer}
use Rattle.pull_cli.specs.Ends.{Finishes, Writes, WritesRefusal}
use Rattle.pull_cli.specs.StopsAndResumes.{saved_text}
use Rattle.pull_cli.proofs.ResumeLemmas.{ResumesToReport, saved_resumes}
use Rattle.pull_cli.proofs.WriteStatus.{whole}
use Rattle.pull_laws.specs.Resuming.{Call, files_before, HasFailedRead, HasStopped, IsResumedBy, EndsResumed, reported}
use Rattle.pull_laws.specs.Resuming.{unread, unwritten, no_memory}
use Rattle.pull_cli.specs.Verdict.{OfWords}
use Rattle.pull_laws.proofs.ResumeStops.{look_stops, plant_stops}
use Rattle.command_line.proofs.ResumeWords.{names_files}
use Rattle.pull_laws.proofs.ResumedReports.{one_plant, same_files, plant_plain, second_plant, second_reports}
use Rattle.pull_laws.proofs.ShortFiles.{IsShort, IsShortPlant, short_bytes, plant_short, same_short}

-- the report, or a refusal to a file that couldn't be read, or to no memory
abbrev pub GivesReport : Plant → Result Answer Refusal → Type 0
GivesReport p (Ok output) = IsReport p (Ok output)
GivesReport p (Err (StoreFault file)) = ⊤
GivesReport p (Err NoMemory) = ⊤
GivesReport p (Err other) = ⊥

no_error : (W : Result Plant PlantError) (p : Plant) (error : PlantError) → W ≡ Ok p → W ≡ Err error → ⊥
no_error W p error is also = cc

module _ (p : Plant) (live : IsLive (graph p)) (W : Result Plant PlantError) (is : W ≡ Ok p) where
  same_as : (q : Plant) → W ≡ Ok q → q ≡ p
  same_as q also = one_plant W q p also is

  not_refused : (error : PlantError) → IsOfPlant W (Err (Refused error)) → GivesReport p (Err (Refused error))
  not_refused error said = absurd (no_error W p error is said)

  not_dead_plant : (labels : List (List ℕ)) → IsOfPlant W (Err (Dead labels)) → GivesReport p (Err (Dead labels))
  not_dead_plant labels said =
      absurd (not_dead p labels live (subst (λ (q : Plant). AreDead (graph q) labels) (same_as said.0 said.1) said.2))

-- a report that comes, or no memory
report_answers : (p : Plant) (answer : Result Answer Refusal) → IsReport p answer → GivesReport p answer
report_answers p (Ok output) is = is
report_answers p (Err refusal) is = absurd is.written

settled_answers : (p : Plant) (bytes : List ℕ) (answer : Result Answer Refusal) → ResumesToReport p bytes →
    IsResumed p bytes answer ⊎ (answer ≡ Err NoMemory) → GivesReport p answer
settled_answers p bytes answer resumes (inl is) = report_answers p answer (resumes answer is)
settled_answers p bytes answer resumes (inr none) = subst (GivesReport p) (sym none) tt

-- what a checkpoint may have is the limit of its file
few_bytes : (name bytes : List ℕ) → is_checkpoint_name name ≡ true → length bytes ≤ most_checkpoint_bytes →
    length bytes ≤ limit_of name
few_bytes name bytes checkpoint few =
    subst (λ (b : Bool). length bytes ≤ (if b then most_checkpoint_bytes else most_file_bytes)) (sym checkpoint) few

-- one content of a file
one_content : (o : Option (List ℕ)) (xs ys : List ℕ) → o ≡ Some xs → o ≡ Some ys → ys ≡ xs
one_content o xs ys is also = cc

-- how a call ends by what it answered
wrote : (p : Plant) (call : Call) (bytes : List ℕ) (good : ℕ) → (call.status ≡ good → EndsResumed p call) →
    Writes call.sink bytes good call.status → EndsResumed p call
wrote p call bytes good ends (inl all) = ends all.0
wrote p call bytes good ends (inr broke) = unwritten broke.0 broke.1

wrote_refusal : (p : Plant) (call : Call) (refusal : Refusal) → (call.status ≡ status_of refusal → EndsResumed p call) →
    WritesRefusal call.sink refusal call.status → EndsResumed p call
wrote_refusal p call refusal ends (inl own) = wrote p call (text_of refusal) (status_of refusal) ends own
wrote_refusal p call refusal ends (inr memory) =
    wrote p call (text_of NoMemory) (status_of NoMemory) (λ nine. no_memory nine) memory.2

-- no write failed where there was none
no_failed_write : (file : List ℕ) → Any (IsFailedWrite file) [] → ⊥
no_failed_write file (k, w, below, here, failed) = omega (arith, below)

-- the count of failed reads rose where a file couldn't be read, for the call writes none
fault_of : (call : Call) (file : List ℕ) → HasCause call.store call.disk [] (StoreFault file) → HasFailedRead call file
fault_of call file (inl read) = read
fault_of call file (inr written) = absurd (no_failed_write file written.0)

by_refusal : (p : Plant) (call : Call) (refusal : Refusal) → HasCause call.store call.disk [] refusal →
    GivesReport p (Err refusal) → WritesRefusal call.sink refusal call.status → EndsResumed p call
by_refusal p call (StoreFault file) cause answers wrote_it =
    wrote_refusal p call (StoreFault file) (λ five. unread file five (fault_of call file cause)) wrote_it
by_refusal p call NoMemory cause answers wrote_it = wrote_refusal p call NoMemory (λ nine. no_memory nine) wrote_it
by_refusal p call other cause answers wrote_it = absurd answers

module _ (p : Plant) (name : List ℕ) (stop : Stop) (first second : Call) (stopped : HasStopped p name stop first)
    (resumed : IsResumedBy name stop first second) where
  abbrev Held : Read → Type 0
  Held = IsOfFile second.store

  abbrev Reports : Result Answer Refusal → Type 0
  Reports = GivesReport p

  abbrev bytes : List ℕ
  bytes = saved_text p stopped.saved.state

  saved_there : files_before second stop.save ≡ Some bytes
  saved_there = resumed.over stop.save ∙ stopped.saved.saved stopped.calls.known

  -- it is no longer than a checkpoint may be
  saved_short : IsShort (files_before second) stop.save
  saved_short =
      let names = names_files second.words name stop.save resumed.workers resumed.calls.asked in
      short_bytes (files_before second) stop.save bytes saved_there
      (few_bytes stop.save bytes names.1 stopped.saved.fits)

  -- and the files of the plant, which the first call has read, are no longer than they may be
  first_short : IsShortPlant (files_before first) name
  first_short =
      let does = stopped.calls.ends.does in
      let reads = stopped.read.reads in
      let whole : does.asks.reads ≡ reads ++ stopped.read.more =
      append_cancel_left first.store.old.asked.reads does.asks.reads (reads ++ stopped.read.more)
      (sym (ap (λ (a : Asked). a.reads) does.asked) ∙ stopped.read.asked)
      in
      let held = subst (All (IsOfFile first.store)) whole does.of_files in
      plant_short first.store stopped.calls.known name reads p
      (live_read name reads p stopped.read.answers stopped.read.live)
      (subst (All (IsOfFile first.store)) (take-append_seam reads stopped.read.more)
      (All-take (IsOfFile first.store) (length reads) (reads ++ stopped.read.more) held))

  second_short : IsShortPlant (files_before second) name
  second_short =
      same_short (files_before second) (files_before first) (same_files p name stop first stopped second resumed) name
      (plant_plain p name stop first stopped second resumed) first_short

  -- the file is read
  of_file : (reads : List Read) (answer : Result Answer Refusal) →
      Then (LooksAt stop.save) (λ found. Settles (IsResumed p found)) reads answer → All Held reads → Reports answer
  of_file reads answer steps all =
      then_leads (LooksAt stop.save) (λ found. Settles (IsResumed p found)) Held Reports reads answer steps all
      (λ refusal before fits stops.
      look_stops second.store resumed.calls.known (λ (r : Refusal). Reports (Err r))
      (λ file. tt) tt stop.save saved_short before refusal stops fits)
      (λ found before after fits rest looks on.
      settled_answers p found answer
      (subst (ResumesToReport p) (one_content (files_before second stop.save) found bytes
      (looked second.store resumed.calls.known stop.save before found looks fits) saved_there)
      (saved_resumes p stopped.saved.state stopped.saved.stopped.reached))
      on.1)

  -- the plant is read, and then the file
  of_plant : (reads : List Read) (answer : Result Answer Refusal) →
      Then (OfPlantNamed second.store.tells (files_before second) name)
      (λ q. Then (LooksAt stop.save) (λ found. Settles (IsResumed q found))) reads answer → All Held reads →
      Reports answer
  of_plant reads answer steps all =
      let W = plant_of name (files_before second) in
      let is : W ≡ Ok p = second_plant p name stop first stopped second resumed in
      let live = stopped.read.live in
      then_leads (OfPlantNamed second.store.tells (files_before second) name)
      (λ q. Then (LooksAt stop.save) (λ found. Settles (IsResumed q found))) Held Reports reads answer steps all
      (λ refusal before fits stops.
      plant_stops second.store resumed.calls.known (λ (r : Refusal). IsOfPlant W (Err r) → Reports (Err r))
      (λ file said. tt) (λ said. tt)
      (not_refused p live W is) (not_dead_plant p live W is)
      name second_short before refusal stops.answers fits (stops.of_files resumed.calls.known))
      (λ q before after fits rest first_steps next.
      of_file after answer
      (subst (λ (v : Plant). Then (LooksAt stop.save) (λ found. Settles (IsResumed v found)) after answer)
      (same_as p live W is q (first_steps.of_files resumed.calls.known)) next)
      rest)

  -- how the call ends
  of_answer : (answer : Result Answer Refusal) → Reports answer → IfErr answer (HasCause second.store second.disk []) →
      Finishes second.sink answer second.status → EndsResumed p second
  of_answer (Ok output) answers cause wrote_it =
      let text = report p (date_in answers.rows) in
      wrote p second text 0 (λ zero. reported zero (second_reports p name stop first stopped second resumed zero))
      (whole second.sink text output second.status answers.written wrote_it)
  of_answer (Err refusal) answers cause wrote_it = by_refusal p second refusal cause answers wrote_it

  abbrev Resumes : Asked → Result Answer Refusal → Type 0
  Resumes asks answer =
      OfWords second.store.tells (files_before second)
      (Some (resuming name stop.save resumed.workers)) asks second.disk answer

  of_words : (asks : Asked) (answer : Result Answer Refusal) → All Held asks.reads → Resumes asks answer →
      Reports answer
  of_words asks answer all (inl does) = of_plant asks.reads answer does.answers all
  of_words asks answer all (inr wanting) = subst Reports (sym wanting.2) tt

  -- it writes no file
  unwritten_files : (asks : Asked) (answer : Result Answer Refusal) → Resumes asks answer → asks.writes ≡ []
  unwritten_files asks answer (inl does) = does.unwritten
  unwritten_files asks answer (inr wanting) = ap (λ (a : Asked). a.writes) wanting.0

  -- the call ends with the report, or for one of those causes
  pub ends_resumed : EndsResumed p second
  ends_resumed =
      let ends = resumed.calls.ends in
      let does = ends.does in
      let resumes : Resumes does.asks ends.answer =
      subst (λ (o : Option Command). OfWords second.store.tells
      (files_before second) o does.asks second.disk ends.answer) resumed.calls.asked does.answers
      in
      of_answer ends.answer (of_words does.asks ends.answer does.of_files resumes)
      (subst (λ (ws : List Write). IfErr ends.answer (HasCause second.store second.disk ws))
      (unwritten_files does.asks ends.answer resumes) does.caused)
      ends.finishes
