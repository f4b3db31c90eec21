use Rattle.std.proofs.Common.{◌≡◌, rules}
use Rattle.outside_io.specs.RawFiles.{spare_of}
use Rattle.outside_io.proofs.CountedLemmas.{writes_counted, writes_nothing}
use Rattle.outside_io.proofs.file_store.write_counted.Goals as goal

pub returns-in-Ok : goal.returns-in-Ok
returns-in-Ok g c =
    let spare : c.as_str.result.now ≡ spare_of c.args.name.now = search rules in
    let counted = c.count_fault.ensures in
    writes_counted g.F.RawFiles.tells (g.F.RawFiles.shown c.args.files.now) (g.F.RawFiles.shown c.write_file.new.files) c.as_str.result.now c.args.name.now c.args.bytes.now c.args.faults.now c.count_fault.new.faults c.write_file.result c.count_fault.result spare c.write_file.ensures counted.same counted.failed counted.stays counted.stays_or_rises counted.rises

pub returns-in-Err : goal.returns-in-Err
returns-in-Err g c =
    writes_nothing g.F.RawFiles.tells (g.F.RawFiles.shown c.args.files.now) c.args.name.now c.args.bytes.now c.args.faults.now
