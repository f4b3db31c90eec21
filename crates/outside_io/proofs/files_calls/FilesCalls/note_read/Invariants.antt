use Rattle.outside_io.specs.RawFiles.{read_call}
use Rattle.outside_io.proofs.files_calls.FilesCalls.note_read.Given as goal

abbrev pub ghost-note_call : goal.ghost-note_call
ghost-note_call a = read_call a.given.now a.answer
