use Rattle.std.proofs.Common.{◌++◌, ◌∷◌, []}
use Rattle.crash_disk.specs.RawFile.{Opens}
use Rattle.crash_disk.proofs.raw_calls.RawCalls.note_open.Given as goal

-- the calls of before, and this one
abbrev pub ghost-of : goal.ghost-of
ghost-of a = a.from.now.0.now.items ++ Opens a.from.now.1 a.from.now.2 ∷ []
