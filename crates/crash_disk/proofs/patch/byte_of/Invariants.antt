use Rattle.std.proofs.Common.{◌≡◌, map, drop}
use Rattle.crash_disk.specs.Memory.{span_of, byte_from}
use Rattle.crash_disk.proofs.patch.byte_of.Given as goal

-- the byte so far, with the patches that are left over it
abbrev pub invariant-loop-patch : goal.invariant-loop-patch
invariant-loop-patch l =
    byte_from l.byte (map span_of (drop l.patch-index l.patches)) l.address ≡ byte_from 0 (map span_of l.patches) l.address
