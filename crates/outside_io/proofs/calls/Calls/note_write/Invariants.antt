use Rattle.outside_io.specs.Calls.{write_of}
use Rattle.outside_io.proofs.calls.Calls.note_write.Given as goal

abbrev pub ghost-note_call : goal.ghost-note_call
ghost-note_call a = write_of a.given.now a.also.now a.answer
