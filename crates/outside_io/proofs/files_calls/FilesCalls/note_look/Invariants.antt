use Rattle.outside_io.specs.RawFiles.{Looks, by_kind}
use Rattle.outside_io.proofs.files_calls.FilesCalls.note_look.Given as goal

abbrev pub ghost-note_call : goal.ghost-note_call
ghost-note_call a = Looks a.given.now (by_kind a.answer)
