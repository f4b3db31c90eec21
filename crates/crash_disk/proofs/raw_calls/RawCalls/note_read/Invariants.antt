use Rattle.crash_disk.specs.RawFile.{read_call}
use Rattle.crash_disk.proofs.raw_calls.RawCalls.note_read.Given as goal

abbrev pub ghost-note_call : goal.ghost-note_call
ghost-note_call a = read_call a.at a.bytes.now a.answer
