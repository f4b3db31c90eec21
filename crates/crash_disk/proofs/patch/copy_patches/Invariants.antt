use Rattle.std.proofs.Common.{◌≡◌, map, take}
use Rattle.crash_disk.specs.Memory.{span_of}
use Rattle.crash_disk.proofs.patch.copy_patches.Given as goal

-- the patches so far
abbrev pub invariant-loop-patch : goal.invariant-loop-patch
invariant-loop-patch l = map span_of l.copies.items ≡ map span_of (take l.patch-index l.patches)
