use Rattle.std.proofs.Common.{ℕ, List}
use Rattle.live_plant.specs.LintSteps.{IsFileLint, LintsDraft}
use Rattle.live_plant.specs.Outside.{store_over}
use Rattle.live_plant.specs.Steps.{LooksAt, Settles, Then}
use Rattle.live_plant.proofs.LintReads.{file_needs_none}
use Rattle.live_plant.proofs.StepLemmas.{settled_is_caused, settles, then_makes, then_hands_on, then_stops}
use Rattle.std.specs.Prelude.{Ok, Err}
use Rattle.live_plant.proofs.lint.lint_plant_file.Goals as goal

pub returns-in_err-bytes : goal.returns-in_err-bytes
returns-in_err-bytes g c =
    then_hands_on g.S.Store.tells (g.S.Store.shown c.args.store.now) (g.S.Store.shown c.read_file.new.store) (LooksAt c.args.name.now) (λ (bytes : List ℕ). Then (Settles (IsFileLint bytes)) LintsDraft) c.in_err-bytes.field-0.0 c.from_residual.result c.from_residual.ensures.1 c.in_err-bytes.ensures.makes

pub returns-in-Ok : goal.returns-in-Ok
returns-in-Ok g c =
    let tells = g.S.Store.tells in
    let between = g.S.Store.shown c.read_file.new.store in
    let new = g.S.Store.shown c.lint_files.new.store in
    let bytes = c.in_ok-bytes.bytes in
    then_makes tells (g.S.Store.shown c.args.store.now) between new (LooksAt c.args.name.now) (λ (bytes : List ℕ). Then (Settles (IsFileLint bytes)) LintsDraft) bytes c.lint_files.result c.in_ok-bytes.ensures.makes
    (then_makes tells between between new (Settles (IsFileLint bytes)) LintsDraft c.in-Ok.file c.lint_files.result
    (settles tells between (IsFileLint bytes) (Ok c.in-Ok.file) c.in-Ok.ensures tt)
    c.lint_files.ensures)

pub returns-in-Err : goal.returns-in-Err
returns-in-Err g c =
    let tells = g.S.Store.tells in
    let between = g.S.Store.shown c.read_file.new.store in
    let bytes = c.in_ok-bytes.bytes in
    let refusal = c.in-Err.refusal in
    then_makes tells (g.S.Store.shown c.args.store.now) between between (LooksAt c.args.name.now) (λ (bytes : List ℕ). Then (Settles (IsFileLint bytes)) LintsDraft) bytes (Err refusal) c.in_ok-bytes.ensures.makes
    (then_stops tells between between (Settles (IsFileLint bytes)) LintsDraft refusal
    (settles tells between (IsFileLint bytes) (Err refusal) c.in-Err.ensures
    (settled_is_caused (store_over tells between between) (IsFileLint bytes) (Err refusal) (file_needs_none bytes (Err refusal)) c.in-Err.ensures)))
