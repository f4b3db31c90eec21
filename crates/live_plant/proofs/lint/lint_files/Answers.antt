use Rattle.plant_file.specs.Draft.{demands_file}
use Rattle.live_plant.specs.LintSteps.{IsDraftLint}
use Rattle.live_plant.specs.Outside.{store_over}
use Rattle.live_plant.proofs.LintReads.{draft_needs_none}
use Rattle.live_plant.proofs.StepLemmas.{settled_is_caused}
use Rattle.live_plant.proofs.TwoFiles.{both_given, none_given}
use Rattle.live_plant.proofs.lint.lint_files.Goals as goal

pub returns-in-Ok : goal.returns-in-Ok
returns-in-Ok g c =
    let tells = g.S.Store.tells in
    let old = g.S.Store.shown c.args.store.now in
    let new = g.S.Store.shown c.read_files_of.new.store in
    let file = c.args.file in
    let files = c.in-Ok.files in
    let is = c.lint_bytes-answer.ensures in
    both_given tells old new (demands_file file.draft) file.draft.times_file (IsDraftLint file) files c.lint_bytes-answer.result c.in-Ok.ensures.makes is
    (settled_is_caused (store_over tells old new) (IsDraftLint file files.demands files.times) c.lint_bytes-answer.result (draft_needs_none file files.demands files.times c.lint_bytes-answer.result) is)

pub returns-in-Err : goal.returns-in-Err
returns-in-Err g c =
    let file = c.args.file in
    none_given g.S.Store.tells (g.S.Store.shown c.args.store.now) (g.S.Store.shown c.read_files_of.new.store) (demands_file file.draft) file.draft.times_file (IsDraftLint file) c.in-Err.refusal c.in-Err.ensures.makes
