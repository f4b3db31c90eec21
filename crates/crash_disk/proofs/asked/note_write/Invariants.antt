use Rattle.std.proofs.Common.{◌++◌, ◌∷◌, []}
use Rattle.crash_disk.specs.DiskView.{disk_write}
use Rattle.crash_disk.proofs.asked.note_write.Given as goal

-- the calls of before, and this one
abbrev pub ghost-of : goal.ghost-of
ghost-of a = a.from.now.0.now.items ++ disk_write a.from.now.1 a.from.now.2.now a.from.now.3.now ∷ []
