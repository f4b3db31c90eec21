use Rattle.outside_io.specs.Calls.{read_of}
use Rattle.outside_io.proofs.calls.Calls.note_read.Given as goal

abbrev pub ghost-note_call : goal.ghost-note_call
ghost-note_call a = read_of a.given.now a.answer
