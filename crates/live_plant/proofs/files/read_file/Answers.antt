use Rattle.std.proofs.Common.{ℕ, ◌<◌, ap, subst}
use Rattle.std.specs.Prelude.{Err, IsTrue}
use Rattle.outside_io.specs.Contents.{IsLongerThan}
use Rattle.live_plant.proofs.FileReads.{read_fault}
use Rattle.live_plant.proofs.files.read_file.Goals as goal

pub returns-in-Err-clause-makes : goal.returns-in-Err-clause-makes
returns-in-Err-clause-makes g c =
    let old = g.S.Store.shown c.args.store.now in
    let new = g.S.Store.shown c.read.new.self in
    let name = c.args.name.now in
    let read = c.in-Err.ensures in
    read_fault g.S.Store.tells old new name read.files_stay read.read_faults_stay_or_rise read.write_faults_stay_or_rise c.in-Err.error c.file_fault.result read.recorded c.file_fault.ensures
    (λ same. read.cause (ap Err same))
    (λ same. subst (λ (limit : ℕ). limit < new.taken) c.limit_of.ensures (read.too_long.0 (ap Err same)))
    (λ same. subst (λ (limit : ℕ). IsTrue g.S.Store.tells → IsLongerThan limit (old.files name)) c.limit_of.ensures (read.longer (ap Err same)))
