use Rattle.outside_io.specs.RawFiles.{write_call}
use Rattle.outside_io.proofs.files_calls.FilesCalls.note_write.Given as goal

abbrev pub ghost-note_call : goal.ghost-note_call
ghost-note_call a = write_call a.given.now a.answer
