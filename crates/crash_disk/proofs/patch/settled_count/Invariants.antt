use Rattle.std.proofs.Common.{◌≡◌, ◌≤◌, take}
use Rattle.crash_disk.specs.Memory.{settled_count}
use Rattle.crash_disk.proofs.patch.settled_count.Given as goal

-- the count of the calls so far
abbrev pub invariant-loop-i : goal.invariant-loop-i
invariant-loop-i l = (l.count ≡ settled_count (take l.i l.calls)) × (l.count ≤ l.i)
