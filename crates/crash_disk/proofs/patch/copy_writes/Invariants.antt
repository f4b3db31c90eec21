use Rattle.std.proofs.Common.{◌≡◌, ◌++◌, map, drop}
use Rattle.crash_disk.specs.Memory.{span_of, copied_spans}
use Rattle.crash_disk.proofs.patch.copy_writes.Given as goal

-- the copies so far, and those of the calls that are left
abbrev pub invariant-loop-call : goal.invariant-loop-call
invariant-loop-call l =
    map span_of l.patches.items ++ copied_spans l.how (drop l.call-index l.calls) ≡ map span_of l.fn.patches.items ++ copied_spans l.how l.calls
