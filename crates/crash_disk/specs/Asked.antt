-- What a disk notes of its calls.
use Rattle.std.specs.Prelude.{List}
use Rattle.line_base.specs.declared.transcript.Transcript.{Transcript}
use Rattle.crash_disk.specs.DiskView.{DiskAsk}

-- every call with its answer, the oldest first
abbrev pub asked_of : Transcript DiskAsk → List DiskAsk
asked_of asked = asked.items
