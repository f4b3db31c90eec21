use Rattle.crash_disk.specs.RawFile.{write_call}
use Rattle.crash_disk.proofs.raw_calls.RawCalls.note_write.Given as goal

abbrev pub ghost-note_call : goal.ghost-note_call
ghost-note_call a = write_call a.at a.bytes.now a.answer
