use Rattle.outside_io.specs.RawOut.{out_call}
use Rattle.outside_io.proofs.raw_out.OutCalls.note_write.Given as goal

abbrev pub ghost-note_call : goal.ghost-note_call
ghost-note_call a = out_call a.given.now a.answer
