use Rattle.std.proofs.Common.{◌++◌, ◌∷◌, []}
use Rattle.crash_disk.specs.DiskView.{disk_sync}
use Rattle.crash_disk.proofs.asked.note_sync.Given as goal

-- the calls of before, and this one
abbrev pub ghost-of : goal.ghost-of
ghost-of a = a.from.now.0.now.items ++ disk_sync a.from.now.1.now ∷ []
