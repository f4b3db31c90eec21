-- What the words of a call and the files decide of its answer, and how the call then ends.
use Rattle.std.proofs.Common.{◌≡◌, ◌⊎◌, ◌≤◌, ℕ, Bool, true, List, refl, sym, ◌∙◌, subst, inl, inr, ⊎_elim, arith}
use Rattle.std.specs.Prelude.{Option, Some, None, Result, Ok, Err, IfErr, IsTrue, All, ⊤}
use Rattle.answers.specs.Answer.{answer_bytes, version}
use Rattle.answers.specs.CheckText.{check_text}
use Rattle.answers.specs.Curves.{Counts}
use Rattle.answers.specs.declared.answer.Answer.{Answer}
use Rattle.answers.specs.declared.answer.Answer.TheVariants.{Curved}
use Rattle.live_plant.specs.Big.{big_plant}
use Rattle.command_line.specs.Screens.{help_text}
use Rattle.command_line.specs.Words.{command_of}
use Rattle.command_line.specs.declared.command.Command.{Command}
use Rattle.commands.specs.Answers.{AnswersAlone, AnswersOfPlant, AnswersOfFile}
use Rattle.commands.specs.Reports.{IsReport, Writes as Answers}
use Rattle.commands.specs.Saving.{DoesOnSlots, RunsUntil}
use Rattle.command_line.specs.declared.alone_question.AloneQuestion.{AloneQuestion}
use Rattle.command_line.specs.declared.alone_question.AloneQuestion.TheVariants as alone
use Rattle.command_line.specs.declared.command.Command.TheVariants.{Alone, Lint, OnPlant, OnFile, Standing, Stopping, OnDisk}
use Rattle.command_line.specs.declared.disk_question.DiskQuestion.{DiskQuestion}
use Rattle.command_line.specs.declared.disk_question.DiskQuestion.TheVariants as of_disk
use Rattle.command_line.specs.declared.file_question.FileQuestion.{FileQuestion}
use Rattle.command_line.specs.declared.file_question.FileQuestion.TheVariants as file
use Rattle.command_line.specs.declared.plant_question.PlantQuestion.{PlantQuestion}
use Rattle.command_line.specs.declared.plant_question.PlantQuestion.TheVariants as of_plant
use Rattle.command_line.specs.declared.plant_source.PlantSource.{PlantSource}
use Rattle.line_core.specs.Schedule.{follow}
use Rattle.outside_io.specs.Calls.{Read, Write, Asked}
use Rattle.outside_io.specs.Contents.{Contents}
use Rattle.outside_io.specs.SinkView.{SinkView}
use Rattle.outside_io.proofs.OutgoingLemmas.{rose_after}
use Rattle.line_report.specs.ReportText.{report}
use Rattle.line_report.specs.SummaryText.{summary}
use Rattle.line_summary.specs.SummaryText.{summary_text}
use Rattle.line_chart.specs.TableText.{table_text}
use Rattle.live_plant.specs.Actions.{Action, DiskOver, DoesOn, ThenDoes, HasCause}
use Rattle.live_plant.specs.LintSteps.{LintsPlant}
use Rattle.live_plant.specs.Outside.{sink_over}
use Rattle.live_plant.specs.LiveSteps.{OfLivePlant, OfPlantNamed}
use Rattle.live_plant.specs.Steps.{Step, Settles, LooksAt, Then}
use Rattle.plant_model.specs.declared.plant.Plant.{Plant}
use Rattle.plant_model.specs.Graph.{graph}
use Rattle.live_plant.specs.Refusal.{status_of, text_of}
use Rattle.live_plant.specs.declared.refusals.refusal.Refusal.{Refusal}
use Rattle.live_plant.specs.declared.refusals.refusal.Refusal.TheVariants.{Disk, NoMemory, StoreFault, Usage}
use Rattle.pull_cli.specs.Ends.{Finishes, FinishesCurve, Writes, WritesRefusal}
use Rattle.pull_cli.specs.Verdict.{AsksWith, OfCommand, OfWords}
use Rattle.pull_laws.specs.Resuming.{Call, files_before}
use Rattle.pull_laws.specs.Verdicts.{HoldsForCommand, HoldsFor, status_in, IsFree, IsDecidedAnswer, HasVerdict, IsCallOver}
use Rattle.pull_laws.specs.Verdicts.{HasFailed, unread, unsaved, unwritten, disk_failed, no_memory}
use Rattle.pull_laws.proofs.Alike.{IsHeld, IsFreeAnswer, AreAlike, Fit, IsSoundAndLive, Agrees, all_of_front}
use Rattle.pull_laws.proofs.Alike.{memory_free, plant_known, then_agrees, then_agrees_where, settles_agrees}
use Rattle.pull_laws.proofs.Alike.{look_agrees, live_agrees}
use Rattle.pull_laws.proofs.AnswersAlike.{Ends, texts_alike, least_alike, refused_alike, cycled_alike, ends_alike}
use Rattle.pull_laws.proofs.AnswersAlike.{resumed_alike, done_or_free, run_done, slots_done, slots_alike}
use Rattle.pull_laws.proofs.CardsAlike.{cards_alike, each_alike, curves_alike}
use Rattle.pull_laws.proofs.DatesAlike.{latest_alike, whys_alike, charts_alike}
use Rattle.pull_laws.proofs.EditsAlike.{edits_alike}
use Rattle.pull_laws.proofs.FirstSteps.{also_then}
use Rattle.pull_laws.proofs.LintsAlike.{lints_agree}

-- ---- each question

alone_alike : (q : AloneQuestion) (one other : Result Answer Refusal) → AnswersAlone q one → AnswersAlone q other →
    Ends one other
alone_alike (alone.Help topic) one other is also = texts_alike (help_text topic) one other is also
alone_alike alone.Version one other is also = texts_alike version one other is also
alone_alike (alone.Big seed workers) one other is also =
    least_alike (big_plant seed) (summary (big_plant seed)) one other is also

plant_alike : (q : PlantQuestion) (p : Plant) → IsSoundAndLive p → (one other : Result Answer Refusal) →
    AnswersOfPlant q p one → AnswersOfPlant q p other → Ends one other
plant_alike (of_plant.Run workers) p known one other is also = least_alike p (report p) one other is also
plant_alike (of_plant.RunRoom room workers) p known one other is also = least_alike p (report p) one other is also
plant_alike of_plant.Check p known one other is also = texts_alike (check_text p) one other is also
plant_alike of_plant.Cycle p known one other is also = cycled_alike p one other is also
plant_alike (of_plant.Cards wait) p known one other is also = cards_alike p known.sound wait one other is also
plant_alike (of_plant.CardsEach wait) p known one other is also = each_alike p known.sound wait one other is also
plant_alike (of_plant.Curve from to workers) p known one other is also = curves_alike p from to one other is also
plant_alike (of_plant.Latest wait) p known one other is also = latest_alike p wait one other is also
plant_alike (of_plant.Why label job) p known one other is also = whys_alike p label job one other is also
plant_alike of_plant.Summary p known one other is also = least_alike p (summary_text p) one other is also
plant_alike (of_plant.Chart window) p known one other is also = charts_alike p known.sound window one other is also
plant_alike of_plant.Table p known one other is also = least_alike p (table_text p) one other is also

file_alike : (q : FileQuestion) (p : Plant) → IsSoundAndLive p → (bytes : List ℕ) (one other : Result Answer Refusal) →
    AnswersOfFile q p bytes one → AnswersOfFile q p bytes other → Ends one other
file_alike (file.Resume workers) p known bytes one other is also = resumed_alike p bytes one other is also
file_alike file.Replay p known bytes one other is also = ends_alike p (follow (graph p) bytes) one other is also
file_alike file.WhatIf p known bytes one other is also = edits_alike p known.sound bytes one other is also

-- ---- over files that are known

-- the live plant of a plant file, and then a step
of_live : {B : Type 0} (tells : Bool) (files : Contents) (name : List ℕ) (next : Plant → Step B) (reads : List Read)
    (answer : Result B Refusal) → Then (OfPlantNamed tells files name) next reads answer →
    Then (OfLivePlant name) next reads answer
of_live tells files name next reads answer steps =
    also_then (OfPlantNamed tells files name) (OfLivePlant name) next reads answer steps steps.answers.answers

-- a command that was refused its plant with a free refusal, and one that goes on
stopped_free : (one : Result Plant Refusal) (next : Plant → Action Answer) (asked : Asked) (disk : DiskOver)
    (answer : Result Answer Refusal) → DoesOn next one asked disk answer → IsFreeAnswer one → IsFreeAnswer answer
stopped_free (Ok p) next asked disk answer on free = absurd free
stopped_free (Err refusal) next asked disk answer on free = subst IsFreeAnswer (sym on.2) free

-- what goes on alike ends a command alike
does_alike : (next : Plant → Action Answer) (one other : Result Plant Refusal) (asked more : Asked)
    (disk more_disk : DiskOver) (a b : Result Answer Refusal) →
    ((p : Plant) → next p asked disk a → next p more more_disk b → Ends a b) →
    AreAlike (λ (x y : Plant). x ≡ y) one other → DoesOn next one asked disk a → DoesOn next other more more_disk b →
    Ends a b
does_alike next one other asked more disk more_disk a b go (inl free) on also =
    inl (stopped_free one next asked disk a on free)
does_alike next one other asked more disk more_disk a b go (inr (inl free)) on also =
    inr (inl (stopped_free other next more more_disk b also free))
does_alike next (Ok p) (Ok q) asked more disk more_disk a b go (inr (inr is)) on also =
    go p on (subst (λ (v : Plant). next v more more_disk b) (sym is) also)
does_alike next (Ok p) (Err other) asked more disk more_disk a b go (inr (inr is)) on also = absurd is
does_alike next (Err one) (Ok q) asked more disk more_disk a b go (inr (inr is)) on also = absurd is
does_alike next (Err one) (Err other) asked more disk more_disk a b go (inr (inr is)) on also =
    refused_alike (status_of one) one other a b on.2 also.2 (inr refl) (inr (sym is))

module _ (tells_one : Bool) (files_one : Contents) (known_one : IsTrue tells_one) (tells_other : Bool)
    (files_other : Contents) (known_other : IsTrue tells_other)
    (same : (q : List ℕ) → files_one q ≡ files_other q) where
  abbrev Agree : {A : Type 0} → (A → A → Type 0) → Step A → Type 0
  Agree E step = Agrees tells_one files_one known_one tells_other files_other known_other same E step

  -- whatever is written
  abbrev Whatever : Answer → Answer → Type 0
  Whatever one other = ⊤

  plant_agrees : (name : List ℕ) → Agree (λ (x y : Plant). x ≡ y) (OfLivePlant name)
  plant_agrees name = live_agrees tells_one files_one known_one tells_other files_other known_other same name

  settle : (P : Result Answer Refusal → Type 0) →
      ((one other : Result Answer Refusal) → P one → P other → Ends one other) → Agree Whatever (Settles P)
  settle P alike =
      settles_agrees tells_one files_one known_one tells_other files_other known_other same Whatever P alike

  go_on : {A : Type 0} (first : Step A) (next : A → Step Answer) → Agree (λ (x y : A). x ≡ y) first →
      ((x : A) → Agree Whatever (next x)) → Agree Whatever (Then first next)
  go_on {A} first next agrees go =
      then_agrees tells_one files_one known_one tells_other files_other known_other same {A = A}
      {B = Answer} Whatever first next agrees go

  -- a next step over a plant that is sound and live
  go_on_plant : (name : List ℕ) (next : Plant → Step Answer) →
      ((p : Plant) → IsSoundAndLive p → Agree Whatever (next p)) → Agree Whatever (Then (OfLivePlant name) next)
  go_on_plant name next go =
      then_agrees_where tells_one files_one known_one tells_other files_other known_other same {A = Plant}
      {B = Answer} IsSoundAndLive Whatever (OfLivePlant name) next (plant_agrees name)
      (λ before p answers held. plant_known tells_one files_one known_one name before p answers held) go

  of_question : (name : List ℕ) (q : PlantQuestion) →
      Agree Whatever (Then (OfLivePlant name) (λ p. Settles (AnswersOfPlant q p)))
  of_question name q =
      go_on_plant name (λ p. Settles (AnswersOfPlant q p))
      (λ p known. settle (AnswersOfPlant q p) (plant_alike q p known))

  of_file : (name further : List ℕ) (q : FileQuestion) →
      Agree Whatever (Then (OfLivePlant name) (λ p. AsksWith further (AnswersOfFile q p)))
  of_file name further q =
      go_on_plant name (λ p. AsksWith further (AnswersOfFile q p))
      (λ p known. go_on {A = List ℕ} (LooksAt further) (λ bytes. Settles (AnswersOfFile q p bytes))
      (look_agrees tells_one files_one known_one tells_other files_other known_other same further)
      (λ bytes. settle (AnswersOfFile q p bytes) (file_alike q p known bytes)))

  of_lint : (name : List ℕ) → Agree Whatever (Then (LintsPlant name) (λ text. Settles (Answers text)))
  of_lint name =
      go_on {A = List ℕ} (LintsPlant name) (λ text. Settles (Answers text))
      (lints_agree tells_one files_one known_one tells_other files_other known_other same name)
      (λ text. settle (Answers text) (texts_alike text))

  -- an action of a live plant
  then_alike : (next : Plant → Action Answer) (name : List ℕ) (asked more : Asked) (disk more_disk : DiskOver)
      (one other : Result Answer Refusal) → ((p : Plant) (rest later : Asked) → next p rest disk one →
      next p later more_disk other → Ends one other) → All (IsHeld tells_one files_one) asked.reads →
      All (IsHeld tells_other files_other) more.reads →
      ThenDoes (OfPlantNamed tells_one files_one name) next asked disk one →
      ThenDoes (OfPlantNamed tells_other files_other name) next more more_disk other → Ends one other
  then_alike next name asked more disk more_disk one other go held held_too does also =
      let front =
      all_of_front (IsHeld tells_one files_one) does.before does.after
      (subst (All (IsHeld tells_one files_one)) does.split held) in
      let front_too =
      all_of_front (IsHeld tells_other files_other) also.before also.after
      (subst (All (IsHeld tells_other files_other)) also.split held_too) in
      let rest : Asked = record asked { reads = does.after } in
      let later : Asked = record more { reads = also.after } in
      does_alike next does.between also.between rest later disk more_disk one other
      (λ p on on_too. go p rest later on on_too)
      (plant_agrees name does.before also.before does.between also.between does.answers.answers front
      also.answers.answers front_too)
      does.does_on also.does_on

  -- a run with slots is done, or its disk failed, or there was no memory; what goes on from slots is decided by what is
  -- saved there
  slot_question_alike : (source : PlantSource) (saved : Option (List ℕ)) (q : DiskQuestion) (p : Plant)
      (asked more : Asked) (disk more_disk : DiskOver) (one other : Result Answer Refusal) →
      HoldsForCommand (OnDisk source q) saved disk → HoldsForCommand (OnDisk source q) saved more_disk →
      DoesOnSlots q p asked disk one → DoesOnSlots q p more more_disk other → Ends one other
  slot_question_alike source saved (of_disk.RunSlots every workers) p asked more disk more_disk one other holds
      holds_too is also =
      done_or_free one other (slots_done p every asked disk one is) (slots_done p every more more_disk other also)
  slot_question_alike source saved (of_disk.ResumeSlots workers) p asked more disk more_disk one other holds holds_too
      is also =
      slots_alike p saved asked more disk more_disk one other holds holds_too is also

  -- each command
  command_alike : (c : Command) (saved : Option (List ℕ)) (asked more : Asked) (disk more_disk : DiskOver)
      (one other : Result Answer Refusal) → All (IsHeld tells_one files_one) asked.reads →
      All (IsHeld tells_other files_other) more.reads → HoldsForCommand c saved disk →
      HoldsForCommand c saved more_disk → OfCommand tells_one files_one c asked disk one →
      OfCommand tells_other files_other c more more_disk other → Ends one other
  command_alike (Alone q) saved asked more disk more_disk one other held held_too holds holds_too does also =
      settle (AnswersAlone q) (alone_alike q) asked.reads more.reads one other does.answers held also.answers held_too
  command_alike (Lint name) saved asked more disk more_disk one other held held_too holds holds_too does also =
      of_lint name asked.reads more.reads one other does.answers held also.answers held_too
  command_alike (OnPlant source q) saved asked more disk more_disk one other held held_too holds holds_too does also =
      of_question source.file q asked.reads more.reads one other
      (of_live tells_one files_one source.file (λ p. Settles (AnswersOfPlant q p)) asked.reads one does.answers) held
      (of_live tells_other files_other source.file (λ p. Settles (AnswersOfPlant q p)) more.reads other also.answers)
      held_too
  command_alike (OnFile source further q) saved asked more disk more_disk one other held held_too holds holds_too does
      also =
      of_file source.file further q asked.reads more.reads one other
      (of_live tells_one files_one source.file (λ p. AsksWith further (AnswersOfFile q p)) asked.reads one does.answers)
      held
      (of_live tells_other files_other source.file (λ p. AsksWith further (AnswersOfFile q p)) more.reads other
      also.answers)
      held_too
  command_alike (Standing source workers) saved asked more disk more_disk one other held held_too holds holds_too does
      also =
      of_question source.file (of_plant.Run workers) asked.reads more.reads one other
      (of_live tells_one files_one source.file (λ p. Settles (IsReport p)) asked.reads one does.answers) held
      (of_live tells_other files_other source.file (λ p. Settles (IsReport p)) more.reads other also.answers) held_too
  command_alike (Stopping source workers stop) saved asked more disk more_disk one other held held_too holds holds_too
      does also =
      then_alike (λ p. RunsUntil p workers stop.after stop.save) source.file asked more disk more_disk one other
      (λ p rest later on on_too. done_or_free one other (run_done p workers stop.after stop.save rest disk one on)
      (run_done p workers stop.after stop.save later more_disk other on_too))
      held held_too does also
  command_alike (OnDisk source q) saved asked more disk more_disk one other held held_too holds holds_too does also =
      then_alike (DoesOnSlots q) source.file asked more disk more_disk one other
      (λ p rest later on on_too. slot_question_alike source saved q p rest later disk more_disk one other holds
      holds_too on on_too)
      held held_too does also

  -- so the words
  words_alike : (w : Option Command) (saved : Option (List ℕ)) (asked more : Asked) (disk more_disk : DiskOver)
      (one other : Result Answer Refusal) → All (IsHeld tells_one files_one) asked.reads →
      All (IsHeld tells_other files_other) more.reads → HoldsFor w saved disk → HoldsFor w saved more_disk →
      OfWords tells_one files_one w asked disk one → OfWords tells_other files_other w more more_disk other →
      Ends one other
  words_alike None saved asked more disk more_disk one other held held_too holds holds_too does also =
      refused_alike 2 Usage Usage one other does.2 also.2 (inr refl) (inr refl)
  words_alike (Some c) saved asked more disk more_disk one other held held_too holds holds_too (inr none) also =
      inl (memory_free one none.2)
  words_alike (Some c) saved asked more disk more_disk one other held held_too holds holds_too (inl does) (inr none) =
      inr (inl (memory_free other none.2))
  words_alike (Some c) saved asked more disk more_disk one other held held_too holds holds_too (inl does) (inl also) =
      command_alike c saved asked more disk more_disk one other held held_too holds holds_too does also

-- ---- how a call ends

module _ (call : Call) where
  wrote_all : (bytes : List ℕ) (good : ℕ) → Writes call.sink bytes good call.status →
      (call.status ≡ good) ⊎ HasFailed call
  wrote_all bytes good (inl all) = inl all.0
  wrote_all bytes good (inr broke) = inr (unwritten broke.0 broke.1)

  wrote_refusal : (refusal : Refusal) → WritesRefusal call.sink refusal call.status →
      (call.status ≡ status_of refusal) ⊎ HasFailed call
  wrote_refusal refusal (inl own) = wrote_all (text_of refusal) (status_of refusal) own
  wrote_refusal refusal (inr memory) =
      ⊎_elim (λ (nine : call.status ≡ 9). inr (no_memory nine)) (λ (failed : HasFailed call). inr failed)
      (wrote_all (text_of NoMemory) (status_of NoMemory) memory.2)

  free_status : (writes : List Write) (refusal : Refusal) → IsFree refusal →
      HasCause call.store call.disk writes refusal → call.status ≡ status_of refusal → HasFailed call
  free_status writes (StoreFault file) free cause five =
      ⊎_elim (λ read. unread file five read) (λ written. unsaved file five written.1) cause
  free_status writes Disk free cause twelve = disk_failed twelve cause
  free_status writes NoMemory free cause nine = no_memory nine
  free_status writes other free cause is = absurd free

  free_fails : (writes : List Write) (refusal : Refusal) → IsFree refusal →
      HasCause call.store call.disk writes refusal → (call.status ≡ status_of refusal) ⊎ HasFailed call → HasFailed call
  free_fails writes refusal free cause (inl is) = free_status writes refusal free cause is
  free_fails writes refusal free cause (inr failed) = failed

  -- the rows of some first counts of a curve, and then that there is no memory
  cut_short : (between : SinkView) → call.sink.old.faults ≤ between.faults →
      Writes (sink_over between call.sink.new) (text_of NoMemory) (status_of NoMemory) call.status → HasFailed call
  cut_short between later (inl all) = no_memory all.0
  cut_short between later (inr broke) =
      unwritten broke.0 (rose_after call.sink.old.faults between.faults call.sink.new.faults later broke.1)

  curve_ends : (counts : Counts) → FinishesCurve call.sink counts call.status → (call.status ≡ 0) ⊎ HasFailed call
  curve_ends counts (inl all) = inl all.0
  curve_ends counts (inr (inl broke)) = inr (unwritten broke.0 broke.1.cause)
  curve_ends counts (inr (inr cut)) = inr (cut_short cut.between cut.rows.rows.faults_stay_or_rise cut.line)

  -- an answer ends with 0, a refusal with its status, and a free one is a failure
  answer_ends : (answer : Answer) → Finishes call.sink (Ok answer) call.status → (call.status ≡ 0) ⊎ HasFailed call
  answer_ends (Curved counts) ended = curve_ends counts ended
  answer_ends answer ended = wrote_all (answer_bytes answer) 0 ended

  free_ends : (writes : List Write) (answer : Result Answer Refusal) → IsFreeAnswer answer →
      IfErr answer (HasCause call.store call.disk writes) → Finishes call.sink answer call.status → HasFailed call
  free_ends writes (Ok answer) free cause ended = absurd free
  free_ends writes (Err refusal) free cause ended = free_fails writes refusal free cause (wrote_refusal refusal ended)

  status_ends : (answer : Result Answer Refusal) → Finishes call.sink answer call.status →
      (call.status ≡ status_in answer) ⊎ HasFailed call
  status_ends (Ok answer) ended = answer_ends answer ended
  status_ends (Err refusal) ended = wrote_refusal refusal ended

-- two answers that fit have one status
fit_status : (a b : Result Answer Refusal) → Fit (λ (x y : Answer). ⊤) a b → status_in a ≡ status_in b
fit_status (Ok a) (Ok b) fit = refl
fit_status (Ok a) (Err b) fit = absurd fit
fit_status (Err a) (Ok b) fit = absurd fit
fit_status (Err a) (Err b) fit = fit

-- two calls that answered alike
both_end : (one other : Call) (a b : Result Answer Refusal) (writes more : List Write) → Ends a b →
    IfErr a (HasCause one.store one.disk writes) → IfErr b (HasCause other.store other.disk more) →
    Finishes one.sink a one.status → Finishes other.sink b other.status →
    HasFailed one ⊎ (HasFailed other ⊎ (one.status ≡ other.status))
both_end one other a b writes more (inl free) cause cause_too ended ended_too =
    inl (free_ends one writes a free cause ended)
both_end one other a b writes more (inr (inl free)) cause cause_too ended ended_too =
    inr (inl (free_ends other more b free cause_too ended_too))
both_end one other a b writes more (inr (inr fit)) cause cause_too ended ended_too =
    ⊎_elim
    (λ (is : one.status ≡ status_in a).
    ⊎_elim
    (λ (also : other.status ≡ status_in b). inr (inr (is ∙ (fit_status a b fit ∙ sym also))))
    (λ (failed : HasFailed other). inr (inl failed))
    (status_ends other b ended_too))
    (λ (failed : HasFailed one). inl failed)
    (status_ends one a ended)

-- what is decided isn't free
not_free : (answer : Result Answer Refusal) → IsDecidedAnswer answer → IsFreeAnswer answer → ⊥
not_free (Ok answer) decided free = free
not_free (Err refusal) decided free = decided free

-- a call beside a verdict
call_ends : (call : Call) (a b : Result Answer Refusal) (writes : List Write) → IsDecidedAnswer a → Ends a b →
    IfErr b (HasCause call.store call.disk writes) → Finishes call.sink b call.status →
    (call.status ≡ status_in a) ⊎ HasFailed call
call_ends call a b writes decided (inl free) cause ended = absurd (not_free a decided free)
call_ends call a b writes decided (inr (inl free)) cause ended = inr (free_ends call writes b free cause ended)
call_ends call a b writes decided (inr (inr fit)) cause ended =
    ⊎_elim (λ (is : call.status ≡ status_in b). inl (is ∙ sym (fit_status a b fit)))
    (λ (failed : HasFailed call). inr failed) (status_ends call b ended)

-- two verdicts
same_status : (a b : Result Answer Refusal) → IsDecidedAnswer a → IsDecidedAnswer b → Ends a b →
    status_in a ≡ status_in b
same_status a b decided decided_too (inl free) = absurd (not_free a decided free)
same_status a b decided decided_too (inr (inl free)) = absurd (not_free b decided_too free)
same_status a b decided decided_too (inr (inr fit)) = fit_status a b fit

-- what a call over files answered
asked_words : (words : List (List ℕ)) (files : Contents) (saved : Option (List ℕ)) (call : Call) →
    (over : IsCallOver words files saved call) →
    OfWords call.store.tells (files_before call) (command_of words) over.ends.does.asks call.disk over.ends.answer
asked_words words files saved call over =
    subst (λ (ws : List (List ℕ)). OfWords call.store.tells (files_before call)
    (command_of ws) over.ends.does.asks call.disk over.ends.answer) over.words_are over.ends.does.answers

-- a call with status 0 hasn't failed
not_failed : (call : Call) → call.status ≡ 0 → HasFailed call → ⊥
not_failed call zero (unread file five rose) = omega (arith, zero, five)
not_failed call zero (unsaved file five rose) = omega (arith, zero, five)
not_failed call zero (unwritten six rose) = omega (arith, zero, six)
not_failed call zero (disk_failed twelve rose) = omega (arith, zero, twelve)
not_failed call zero (no_memory nine) = omega (arith, zero, nine)

module _ (words : List (List ℕ)) (files : Contents) (saved : Option (List ℕ)) where
  pub one_verdict : (one other : ℕ) → HasVerdict words files saved one → HasVerdict words files saved other →
      one ≡ other
  one_verdict one other is also =
      let alike =
      words_alike true files refl true files refl (λ q. refl)
      (command_of words) saved is.asked also.asked is.disk also.disk is.answer also.answer is.of_files also.of_files
      is.of_slots also.of_slots is.answers also.answers in
      is.status_is ∙ (same_status is.answer also.answer is.decided also.decided alike ∙ sym also.status_is)

  pub ends_with_verdict : (status : ℕ) (call : Call) → HasVerdict words files saved status →
      IsCallOver words files saved call → (call.status ≡ status) ⊎ HasFailed call
  ends_with_verdict status call is over =
      let ends = over.ends in
      let does = ends.does in
      let alike =
      words_alike true files refl call.store.tells (files_before call) over.known (λ q. sym (over.over q))
      (command_of words) saved is.asked does.asks is.disk call.disk is.answer ends.answer is.of_files does.of_files
      is.of_slots over.of_slots is.answers (asked_words words files saved call over) in
      ⊎_elim (λ (own : call.status ≡ status_in is.answer). inl (own ∙ sym is.status_is))
      (λ (failed : HasFailed call). inr failed)
      (call_ends call is.answer ends.answer does.asks.writes is.decided alike does.caused ends.finishes)

  pub end_alike : (one other : Call) → IsCallOver words files saved one → IsCallOver words files saved other →
      HasFailed one ⊎ (HasFailed other ⊎ (one.status ≡ other.status))
  end_alike one other over also =
      let first = over.ends in
      let second = also.ends in
      let alike =
      words_alike one.store.tells (files_before one) over.known other.store.tells (files_before other) also.known
      (λ q. over.over q ∙ sym (also.over q)) (command_of words) saved first.does.asks second.does.asks one.disk
      other.disk first.answer second.answer first.does.of_files second.does.of_files over.of_slots also.of_slots
      (asked_words words files saved one over) (asked_words words files saved other also) in
      both_end one other first.answer second.answer first.does.asks.writes second.does.asks.writes alike
      first.does.caused second.does.caused first.finishes second.finishes

  pub is_complete : (one other : Call) → IsCallOver words files saved one → IsCallOver words files saved other →
      one.status ≡ 0 → (other.status ≡ 0) ⊎ HasFailed other
  is_complete one other over also zero =
      ⊎_elim (λ (failed : HasFailed one). absurd (not_failed one zero failed))
      (λ rest. ⊎_elim (λ (failed : HasFailed other). inr failed)
      (λ (same : one.status ≡ other.status). inl (sym same ∙ zero)) rest)
      (end_alike one other over also)
