use Rattle.std.proofs.Common.{◌≡◌, drop}
use Rattle.crash_disk.specs.Memory.{byte_after}
use Rattle.crash_disk.proofs.patch.byte_after.Given as goal

-- the byte so far, after the calls that are left
abbrev pub invariant-loop-call : goal.invariant-loop-call
invariant-loop-call l = byte_after l.byte (drop l.call-index l.calls) l.address ≡ byte_after l.first l.calls l.address
