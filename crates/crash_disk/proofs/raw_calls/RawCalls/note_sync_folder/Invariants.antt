use Rattle.std.proofs.Common.{◌++◌, ◌∷◌, []}
use Rattle.std.specs.Prelude.{is_ok}
use Rattle.crash_disk.specs.RawFile.{SyncsFolder}
use Rattle.crash_disk.proofs.raw_calls.RawCalls.note_sync_folder.Given as goal

-- the calls of before, and this one
abbrev pub ghost-of : goal.ghost-of
ghost-of a = a.from.now.0.now.items ++ SyncsFolder (is_ok a.from.now.1.now) ∷ []
