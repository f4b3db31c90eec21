use Rattle.std.proofs.Common.{◌++◌, ◌∷◌, []}
use Rattle.crash_disk.specs.DiskView.{disk_read}
use Rattle.crash_disk.proofs.asked.note_read.Given as goal

-- the calls of before, and this one
abbrev pub ghost-of : goal.ghost-of
ghost-of a = a.from.now.0.now.items ++ disk_read a.from.now.1 a.from.now.2 a.from.now.3.now ∷ []
