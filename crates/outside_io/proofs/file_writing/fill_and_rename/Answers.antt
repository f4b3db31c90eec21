use Rattle.std.specs.Prelude.{is_ok}
use Rattle.outside_io.specs.RawFiles.{Spare, Fills, RenamesOnce}
use Rattle.outside_io.proofs.RawFilesModel.{renamed_on_ok, unharmed_on_err, others_renamed, others_grown}
use Rattle.outside_io.proofs.RawFilesRuns.{then_on, then_ended}
use Rattle.outside_io.proofs.file_writing.fill_and_rename.Goals as goal

pub returns-in-Ok-clause-asks : goal.returns-in-Ok-clause-asks
returns-in-Ok-clause-asks g c =
    then_on (Fills c.args.bytes.now) (RenamesOnce c.args.spare.now c.args.name.now) (g.F.RawFiles.shown c.args.files.now) (g.F.RawFiles.shown c.fill.new.files) (g.F.RawFiles.shown c.rename_spare.new.files) (is_ok c.rename_spare.result) c.in-Ok.ensures.asks c.rename_spare.ensures.asks

pub returns-in-Ok-clause-written : goal.returns-in-Ok-clause-written
returns-in-Ok-clause-written g c =
    renamed_on_ok _ (g.F.RawFiles.shown c.args.files.now) (g.F.RawFiles.shown c.fill.new.files) (g.F.RawFiles.shown c.rename_spare.new.files) c.args.spare.now c.args.name.now c.args.bytes.now c.rename_spare.result c.requires.empty c.in-Ok.ensures.written c.rename_spare.ensures.moved

pub returns-in-Ok-clause-unharmed : goal.returns-in-Ok-clause-unharmed
returns-in-Ok-clause-unharmed g c =
    unharmed_on_err _ (g.F.RawFiles.shown c.args.files.now) (g.F.RawFiles.shown c.fill.new.files) (g.F.RawFiles.shown c.rename_spare.new.files) c.args.spare.now c.args.bytes.now c.rename_spare.result c.requires.empty c.in-Ok.ensures.written c.rename_spare.ensures.stays

pub returns-in-Ok-clause-others_stay : goal.returns-in-Ok-clause-others_stay
returns-in-Ok-clause-others_stay g c =
    others_renamed _ (g.F.RawFiles.shown c.args.files.now) (g.F.RawFiles.shown c.fill.new.files) (g.F.RawFiles.shown c.rename_spare.new.files) c.args.spare.now c.args.name.now c.args.bytes.now c.rename_spare.result c.requires.empty c.in-Ok.ensures.written c.rename_spare.ensures.moved c.rename_spare.ensures.stays

pub returns-in-Err-clause-asks : goal.returns-in-Err-clause-asks
returns-in-Err-clause-asks g c =
    then_ended (Fills c.args.bytes.now) (RenamesOnce c.args.spare.now c.args.name.now) (g.F.RawFiles.shown c.args.files.now) (g.F.RawFiles.shown c.fill.new.files) c.in-Err.ensures.asks

pub returns-in-Err-clause-unharmed : goal.returns-in-Err-clause-unharmed
returns-in-Err-clause-unharmed g c = λ known q apart.
    others_grown (g.F.RawFiles.shown c.args.files.now) (g.F.RawFiles.shown c.fill.new.files) (Spare c.args.spare.now) q _ (c.requires.empty known).writes_to (c.in-Err.ensures.torn known).1 apart

pub returns-in-Err-clause-others_stay : goal.returns-in-Err-clause-others_stay
returns-in-Err-clause-others_stay g c = λ known q other apart.
    others_grown (g.F.RawFiles.shown c.args.files.now) (g.F.RawFiles.shown c.fill.new.files) (Spare c.args.spare.now) q _ (c.requires.empty known).writes_to (c.in-Err.ensures.torn known).1 apart
