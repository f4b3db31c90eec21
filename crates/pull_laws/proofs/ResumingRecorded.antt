-- Resuming what a run has written reports its plant, by what both calls have read: the law over files that are known
-- holds over the files from which the reads were answered.
use Rattle.std.proofs.Common.{◌≡◌, ℕ, List, [], ◌∷◌, ◌++◌, refl, ap, sym, ◌∙◌, subst, inl, inr}
use Rattle.std.specs.Prelude.{Option, Some, None, Ok, All}
use Rattle.std.proofs.lemmas.List.{append_cancel_left}
use Rattle.command_line.specs.Words.{asking, resuming}
use Rattle.command_line.specs.declared.command.Command.{Command}
use Rattle.command_line.specs.declared.plant_question.PlantQuestion.TheVariants.{Run}
use Rattle.command_line.specs.declared.command.Stop.{Stop}
use Rattle.outside_io.specs.Calls.{Write, Asked, write_of}
use Rattle.outside_io.specs.Contents.{Contents}
use Rattle.plant_model.specs.declared.plant.Plant.{Plant}
use Rattle.live_plant.specs.Actions.{Changes}
use Rattle.live_plant.specs.Outside.{IsOfFile}
use Rattle.live_plant.proofs.OneReading.{live_read}
use Rattle.live_plant.proofs.PlantsOfFiles.{of_live_plant}
use Rattle.pull_cli.specs.RunReports.{IsPlantRead}
use Rattle.pull_cli.specs.StopsAndResumes.{HasSaved}
use Rattle.pull_cli.specs.Verdict.{OfWords}
use Rattle.pull_laws.specs.Recorded.{ReadsFrom, with_file, telling, over_files, HasEnded}
use Rattle.pull_laws.specs.Resuming.{Call, CallsFor, HasStopped, IsResumedBy, EndsResumed, WroteTheSame}
use Rattle.pull_laws.specs.Resuming.{reported, unread, unwritten, no_memory}
use Rattle.pull_laws.specs.ResumingRecorded.{EndsFor, SavesState, bytes_saved, ResumesWhatWasRead, RunsWhole}
use Rattle.pull_laws.specs.ResumingRecorded.{ResumingRecordedWritesTheSame}
use Rattle.pull_laws.proofs.OverFiles.{all_front, with_file-named, with_file-other, reads_fit, asks_recorded}
use Rattle.pull_laws.proofs.OverFiles.{ends_over_files}
use Rattle.pull_laws.proofs.ResumeEnds.{ends_resumed}
use Rattle.pull_laws.proofs.ResumedReports.{writes_the_same}

-- a call that writes no file, over files that stay
abbrev pub WritesNone : Command → Type 0
WritesNone command =
    (call : Call) (ends : HasEnded call) → OfWords call.store.tells call.store.old.files
    (Some command) ends.does.asks call.disk ends.answer → ends.does.asks.writes ≡ []

resume_writes_none : (name save : List ℕ) (workers : ℕ) → WritesNone (resuming name save workers)
resume_writes_none name save workers call ends (inl does) = does.unwritten
resume_writes_none name save workers call ends (inr wanting) = ap (λ (a : Asked). a.writes) wanting.0

run_writes_none : (name : List ℕ) (workers : ℕ) → WritesNone (asking name (Run workers))
run_writes_none name workers call ends (inl does) = does.unwritten
run_writes_none name workers call ends (inr wanting) = ap (λ (a : Asked). a.writes) wanting.0

none_changed : (call : Call) (files : Contents) (writes : List Write) → writes ≡ [] →
    Changes (telling files files call.store) writes
none_changed call files writes none = subst (Changes (telling files files call.store)) (sym none) (λ known q. refl)

calls_over_files : (command : Command) → WritesNone command → (call : Call) (files : Contents) → EndsFor command call →
    ReadsFrom files call.store → CallsFor command (over_files files files call)
calls_over_files command none call files calls reads =
    let ends = calls.ends in
    let does =
    subst (λ (o : Option Command). OfWords call.store.tells call.store.old.files o ends.does.asks call.disk ends.answer)
    calls.asked ends.does.answers in
    let unwritten_asks : reads.asks.writes ≡ [] =
    ap (λ (a : Asked). a.writes) (asks_recorded call files ends reads) ∙ none call ends does in
    record {
      asked = calls.asked;
      known = refl;
      ends = ends_over_files call files files reads ends (none_changed call files reads.asks.writes unwritten_asks);
    }

-- how the call ends is in its status, its sink and its counts
same_end : (p : Plant) (call : Call) (before after : Contents) → EndsResumed p (over_files before after call) →
    EndsResumed p call
same_end p call before after (reported zero has) = reported zero has
same_end p call before after (unread file five rose) = unread file five rose
same_end p call before after (unwritten six rose) = unwritten six rose
same_end p call before after (no_memory nine) = no_memory nine

-- the call that has saved, over the files that it has read
module _ (p : Plant) (name : List ℕ) (stop : Stop) (first : Call) (saves : SavesState p name stop first)
    (files : Contents) (reads : ReadsFrom files first.store) where
  abbrev bytes : List ℕ
  bytes = bytes_saved saves

  abbrev left : Contents
  left = with_file files stop.save bytes

  abbrev over_them : Call
  over_them = over_files files left first

  one_write : reads.asks.writes ≡ write_of stop.save bytes (Ok tt) ∷ []
  one_write =
      append_cancel_left first.store.old.asked.writes reads.asks.writes (write_of stop.save bytes (Ok tt) ∷ [])
      (sym (ap (λ (a : Asked). a.writes) reads.asked) ∙ saves.saved.asked)

  changed : Changes over_them.store reads.asks.writes
  changed =
      subst (Changes over_them.store) (sym one_write)
      (record {
        leaves = λ known. with_file-named files stop.save bytes;
        others_stay = λ known q other. with_file-other files stop.save bytes q other;
        raises = tt;
      })

  plant_reads : reads.asks.reads ≡ saves.read.reads ++ saves.read.more
  plant_reads =
      append_cancel_left first.store.old.asked.reads reads.asks.reads (saves.read.reads ++ saves.read.more)
      (sym (ap (λ (a : Asked). a.reads) reads.asked) ∙ saves.read.asked)

  held : All (IsOfFile over_them.store) saves.read.reads
  held =
      let ends = saves.calls.ends in
      let same = asks_recorded first files ends reads in
      let fits = subst (λ (a : Asked). All (IsOfFile first.store) a.reads) (sym same) ends.does.of_files in
      all_front (IsOfFile over_them.store) saves.read.reads saves.read.more
      (subst (All (IsOfFile over_them.store)) plant_reads
      (reads_fit first.store files left reads.asks.reads fits reads.answers))

  plant_read : IsPlantRead p name over_them.store
  plant_read = record {
    reads = saves.read.reads;
    more = saves.read.more;
    asked = saves.read.asked;
    answers = saves.read.answers;
    live = saves.read.live;
    of_files = λ known. of_live_plant over_them.store known name saves.read.reads (Ok p)
        (live_read name saves.read.reads p saves.read.answers saves.read.live) held;
  }

  state_saved : HasSaved p stop over_them.store over_them.sink
  state_saved = record {
    state = saves.saved.state;
    stopped = saves.saved.stopped;
    saved = λ known. with_file-named files stop.save bytes;
    fits = saves.saved.fits;
    asked = saves.saved.asked;
    written = saves.saved.written;
  }

  pub has_stopped : HasStopped p name stop over_them
  has_stopped = record {
    workers = saves.workers;
    calls = record {
      asked = saves.calls.asked;
      known = refl;
      ends = ends_over_files first files left reads saves.calls.ends changed;
    };
    status = saves.status;
    read = plant_read;
    saved = state_saved;
  }

-- the call that resumes it
module _ (p : Plant) (name : List ℕ) (stop : Stop) (first second : Call) (saves : SavesState p name stop first)
    (resumes : ResumesWhatWasRead name stop (bytes_saved saves) first second) where
  abbrev found : Contents
  found = resumes.files

  abbrev stays : Contents
  stays = with_file found stop.save (bytes_saved saves)

  abbrev first_told : Call
  first_told = over_files found stays first

  abbrev second_told : Call
  second_told = over_files stays stays second

  stopped : HasStopped p name stop first_told
  stopped = has_stopped p name stop first saves found resumes.first_reads

  resumed : IsResumedBy name stop first_told second_told
  resumed = record {
    workers = resumes.workers;
    calls = calls_over_files (resuming name stop.save resumes.workers)
        (resume_writes_none name stop.save resumes.workers) second stays resumes.calls resumes.second_reads;
    over = λ q. refl;
  }

  pub ends_resumed_recorded : EndsResumed p second
  ends_resumed_recorded =
      same_end p second stays stays (ends_resumed p name stop first_told second_told stopped resumed)

  pub writes_the_same_recorded : second.status ≡ 0 → (whole : Call) → RunsWhole name found whole →
      WroteTheSame second whole
  writes_the_same_recorded zero whole runs =
      writes_the_same p name stop first_told stopped second_told resumed zero (over_files found found whole)
      (record {
        workers = runs.workers;
        calls = calls_over_files (asking name (Run runs.workers))
            (run_writes_none name runs.workers) whole found runs.calls runs.reads;
        status = runs.status;
        over = λ q. refl;
      })

pub resuming_recorded_writes_the_same : ResumingRecordedWritesTheSame
resuming_recorded_writes_the_same p name stop first second whole saves resumes zero run =
    writes_the_same_recorded p name stop first second saves resumes zero whole run
