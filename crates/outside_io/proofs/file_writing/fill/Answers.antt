use Rattle.outside_io.specs.RawFiles.{WritesOn, SyncsOnce}
use Rattle.std.specs.Prelude.{is_ok}
use Rattle.outside_io.proofs.RawFilesModel.{grows_synced, front_of_all, synced_on_ok}
use Rattle.outside_io.proofs.RawFilesRuns.{then_on, then_ended}
use Rattle.outside_io.proofs.file_writing.fill.Goals as goal

pub returns-in-Ok-clause-asks : goal.returns-in-Ok-clause-asks
returns-in-Ok-clause-asks g c =
    then_on (WritesOn c.args.bytes.now) SyncsOnce (g.F.RawFiles.shown c.args.files.now) (g.F.RawFiles.shown c.put.new.files) (g.F.RawFiles.shown c.sync_open.new.files) (is_ok c.sync_open.result) c.in-Ok.ensures.asks c.sync_open.ensures.asks

pub returns-in-Ok-clause-written : goal.returns-in-Ok-clause-written
returns-in-Ok-clause-written g c =
    synced_on_ok _ (g.F.RawFiles.shown c.args.files.now) (g.F.RawFiles.shown c.put.new.files) (g.F.RawFiles.shown c.sync_open.new.files) c.args.bytes.now c.sync_open.result c.in-Ok.ensures.written c.sync_open.ensures.stays

pub returns-in-Ok-clause-torn : goal.returns-in-Ok-clause-torn
returns-in-Ok-clause-torn g c = λ known.
    let old = g.F.RawFiles.shown c.args.files.now in
    let mid = g.F.RawFiles.shown c.put.new.files in
    let new = g.F.RawFiles.shown c.sync_open.new.files in
    front_of_all old new c.args.bytes.now (grows_synced old mid new c.args.bytes.now (c.in-Ok.ensures.written known) (c.sync_open.ensures.stays known))

pub returns-in-Err-clause-asks : goal.returns-in-Err-clause-asks
returns-in-Err-clause-asks g c =
    then_ended (WritesOn c.args.bytes.now) SyncsOnce (g.F.RawFiles.shown c.args.files.now) (g.F.RawFiles.shown c.put.new.files) c.in-Err.ensures.asks

pub returns-in-Err-clause-torn : goal.returns-in-Err-clause-torn
returns-in-Err-clause-torn g c = c.in-Err.ensures.torn
