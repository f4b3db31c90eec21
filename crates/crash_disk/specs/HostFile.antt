-- A file of the machine, as a clause reads it. What it holds isn't known.
use Rattle.std.specs.Prelude.{List, Option, is_some}
use Rattle.crash_disk.specs.DiskView.{blank}
use Rattle.crash_disk.specs.RawFile.{RawCall, RawView}
use Rattle.crash_disk.specs.declared.raw_calls.RawCalls.{RawCalls}

-- every call with its answer, the oldest first
abbrev pub calls_of : RawCalls → List RawCall
calls_of calls = calls.calls.items

-- what a file shows that is open or not
abbrev pub host_view : {F : Type 0} → Option F → RawCalls → RawView
host_view file calls = record { is_open = is_some file; asked = calls_of calls; moment = 0; held = λ _. blank }
