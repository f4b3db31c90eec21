use Rattle.std.proofs.Common.{◌++◌, ◌∷◌, []}
use Rattle.crash_disk.specs.RawFile.{sync_call}
use Rattle.crash_disk.proofs.raw_calls.RawCalls.note_sync.Given as goal

-- the calls of before, and this one
abbrev pub ghost-of : goal.ghost-of
ghost-of a = a.from.now.0.now.items ++ sync_call a.from.now.1.now ∷ []
