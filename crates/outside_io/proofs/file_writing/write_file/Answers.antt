use Rattle.outside_io.specs.RawFiles.{WritesNamed}
use Rattle.outside_io.proofs.WritesFileLemmas.{writes_synced, writes_ended}
use Rattle.outside_io.proofs.file_writing.write_file.Goals as goal

pub returns-in-Ok : goal.returns-in-Ok
returns-in-Ok g c =
    writes_synced g.F.RawFiles.tells (g.F.RawFiles.shown c.args.files.now) (g.F.RawFiles.shown c.write_named.new.files) (g.F.RawFiles.shown c.sync_folder.new.files) c.args.spare.now c.args.name.now c.args.bytes.now c.folder_of.result.now c.folder_of.ensures c.in-Ok.ensures c.sync_folder.ensures.asks c.sync_folder.ensures.stays

pub returns-in-Err : goal.returns-in-Err
returns-in-Err g c =
    writes_ended g.F.RawFiles.tells (g.F.RawFiles.shown c.args.files.now) (g.F.RawFiles.shown c.write_named.new.files) c.args.spare.now c.args.name.now c.args.bytes.now _ c.in-Err.ensures
