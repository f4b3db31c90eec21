use Rattle.std.proofs.Common.{◌≡◌}
use Rattle.crash_disk.specs.DiskView.{bytes_at, held_now}
use Rattle.crash_disk.specs.MemDisk.{mem_view}
use Rattle.crash_disk.proofs.mem_disk.MemDisk.bytes_at.Given as goal

-- the bytes so far
abbrev pub invariant-loop-i : goal.invariant-loop-i
invariant-loop-i l = l.bytes.items ≡ bytes_at (held_now (mem_view l.self)).bytes l.at l.i
