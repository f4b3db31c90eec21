-- Resuming what a run has saved writes the report of its plant.
use Rattle.std.proofs.Common.{◌≡◌, ◌≢◌, ℕ, true, false, List, [], ◌∷◌, refl, ap, sym, ◌∙◌, subst}
use Rattle.std.specs.Prelude.{Some, None, Result, Ok}
use Rattle.std.proofs.lemmas.List.{append_cancel_left}
use Rattle.command_line.specs.Words.{asking, resuming}
use Rattle.command_line.specs.declared.command.Command.{Command}
use Rattle.command_line.specs.declared.plant_question.PlantQuestion.TheVariants.{Run}
use Rattle.command_line.specs.declared.command.Stop.{Stop}
use Rattle.event_graph.specs.Table.{date_in}
use Rattle.line_base.specs.Text.{is_checkpoint_name}
use Rattle.outside_io.specs.Calls.{Write, Asked, write_of}
use Rattle.outside_io.specs.SinkView.{PutsAll}
use Rattle.line_report.specs.ReportText.{report}
use Rattle.line_report.proofs.SameReports.{one_report}
use Rattle.plant_model.specs.declared.error.PlantError.{PlantError}
use Rattle.plant_model.specs.declared.plant.Plant.{Plant}
use Rattle.plant_model.specs.Sound.{IsSound}
use Rattle.plant_file.specs.PlantOfFiles.{bytes_at, plant_of}
use Rattle.pull_laws.proofs.SoundFiles.{plant_of-sound}
use Rattle.live_plant.specs.Actions.{Changes}
use Rattle.pull_cli.specs.RunReports.{run_of, HasReported, Reports}
use Rattle.pull_cli.specs.StopsAndResumes.{saved_text}
use Rattle.pull_laws.specs.Resuming.{Call, files_before, files_after, CallsFor, HasStopped, IsResumedBy, IsWholeRun}
use Rattle.pull_laws.specs.Resuming.{ResumingWritesTheSame, WroteTheSame}
use Rattle.pull_laws.proofs.FileNames.{IsPlain, file_is_plain, reading_sound, same_plant}
use Rattle.pull_cli.proofs.HeadlineLemmas.{reports_of}
use Rattle.command_line.proofs.ResumeWords.{names_files}

-- one answer
pub one_plant : (r : Result Plant PlantError) (p q : Plant) → r ≡ Ok p → r ≡ Ok q → p ≡ q
one_plant r p q is also = cc

no_checkpoint : (q name : List ℕ) → IsPlain q → is_checkpoint_name name ≡ true → q ≡ name → ⊥
no_checkpoint q name plain checkpoint same =
    let both : true ≡ false = sym checkpoint ∙ (ap is_checkpoint_name (sym same) ∙ plain) in
    absurd (cc)

-- a call for a command that runs a plant by workers and isn't asked to stop, and ends with status 0, has written the
-- report of the plant that the files are
run_reports : (c : Command) (name : List ℕ) (p : Plant) (call : Call) → CallsFor c call → run_of c ≡ Some name →
    call.status ≡ 0 → plant_of name (files_before call) ≡ Ok p → HasReported p call.sink
run_reports c name p call calls runs zero plant =
    let well : Reports name call.store call.sink =
    reports_of call.words call.store call.sink call.disk call.status calls.ends c name calls.asked runs zero in
    subst (λ (q : Plant). HasReported q call.sink) (one_plant (plant_of name (files_before call)) well.plant p
    (well.read.of_files calls.known) plant)
    well.reported

-- a call that has saved wrote one file, and every other is as it was
module _ (p : Plant) (name : List ℕ) (stop : Stop) (first : Call) (stopped : HasStopped p name stop first) where
  others_stay : (q : List ℕ) → q ≢ stop.save → files_after first q ≡ files_before first q
  others_stay q other =
      let does = stopped.calls.ends.does in
      let w : Write = write_of stop.save (saved_text p stopped.saved.state) (Ok tt) in
      let one : does.asks.writes ≡ w ∷ [] =
      append_cancel_left first.store.old.asked.writes does.asks.writes (w ∷ [])
      (sym (ap (λ (a : Asked). a.writes) does.asked) ∙ stopped.saved.asked) in
      (subst (Changes first.store) one does.changes).others_stay stopped.calls.known q other

  module _ (second : Call) (resumed : IsResumedBy name stop first second) where
    -- so the second call finds the files of the plant as the first found them
    pub same_files : (q : List ℕ) → IsPlain q → files_before second q ≡ files_before first q
    same_files q plain =
        let names = names_files second.words name stop.save resumed.workers resumed.calls.asked in
        resumed.over q ∙ others_stay q (no_checkpoint q stop.save plain names.1)

    pub plant_plain : IsPlain name
    plant_plain = file_is_plain name (names_files second.words name stop.save resumed.workers resumed.calls.asked).0

    pub second_plant : plant_of name (files_before second) ≡ Ok p
    second_plant =
        same_plant (files_before second) (files_before first) same_files name plant_plain ∙
        stopped.read.of_files stopped.calls.known

    pub second_reports : second.status ≡ 0 → HasReported p second.sink
    second_reports zero =
        run_reports (resuming name stop.save resumed.workers) name p second resumed.calls refl zero second_plant

    -- a run that isn't asked to stop reports the same plant
    whole_reports : (whole : Call) → IsWholeRun name first whole → HasReported p whole.sink
    whole_reports whole run =
        run_reports (asking name (Run run.workers)) name p whole run.calls refl run.status
        (same_plant (files_before whole) (files_before first) (λ q plain. run.over q) name plant_plain ∙
        stopped.read.of_files stopped.calls.known)

    -- and two reports of a plant are the same bytes
    same_bytes : IsSound p → (one other : Call) → HasReported p one.sink → HasReported p other.sink →
        WroteTheSame one other
    same_bytes sound one other a b = (
      report p (date_in a.rows),
      a.written,
      subst (PutsAll other.sink.old other.sink.new)
          (one_report p sound (date_in b.rows) (date_in a.rows) b.least a.least) b.written,
    )

    pub writes_the_same : second.status ≡ 0 → (whole : Call) → IsWholeRun name first whole → WroteTheSame second whole
    writes_the_same zero whole run =
        let files = files_before first in
        let sound : IsSound p =
        plant_of-sound name files p (reading_sound (bytes_at files name)) (stopped.read.of_files stopped.calls.known) in
        same_bytes sound second whole (second_reports zero) (whole_reports whole run)

pub resuming_writes_the_same : ResumingWritesTheSame
resuming_writes_the_same p name stop first second whole stopped resumed zero run =
    writes_the_same p name stop first stopped second resumed zero whole run
