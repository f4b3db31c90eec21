use Rattle.plant_file.specs.Draft.{demands_file}
use Rattle.live_plant.specs.Outside.{store_over}
use Rattle.live_plant.proofs.FileReads.{IsCompleted, completed_needs_none}
use Rattle.live_plant.proofs.StepLemmas.{settled_is_caused}
use Rattle.live_plant.proofs.TwoFiles.{both_given, none_given}
use Rattle.live_plant.proofs.files.complete.Goals as goal

pub returns-in-Ok-clause-makes : goal.returns-in-Ok-clause-makes
returns-in-Ok-clause-makes g c =
    let tells = g.S.Store.tells in
    let old = g.S.Store.shown c.args.store.now in
    let new = g.S.Store.shown c.read_files_of.new.store in
    let d = c.args.draft in
    let files = c.in-Ok.files in
    let is = c.plant_of-answer.ensures.plant in
    both_given tells old new (demands_file d) d.times_file (IsCompleted d) files c.plant_of-answer.result c.in-Ok.ensures.makes is
    (settled_is_caused (store_over tells old new) (IsCompleted d files.demands files.times) c.plant_of-answer.result (completed_needs_none d files.demands files.times c.plant_of-answer.result) is)

pub returns-in-Err-clause-makes : goal.returns-in-Err-clause-makes
returns-in-Err-clause-makes g c =
    let d = c.args.draft in
    none_given g.S.Store.tells (g.S.Store.shown c.args.store.now) (g.S.Store.shown c.read_files_of.new.store) (demands_file d) d.times_file (IsCompleted d) c.in-Err.refusal c.in-Err.ensures.makes
