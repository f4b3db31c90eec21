use Rattle.outside_io.specs.RawFiles.{CreatesSpare, by_kind}
use Rattle.outside_io.proofs.files_calls.FilesCalls.note_create_spare.Given as goal

abbrev pub ghost-note_call : goal.ghost-note_call
ghost-note_call a = CreatesSpare a.given.now (by_kind a.answer)
