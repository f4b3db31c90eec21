use Rattle.std.specs.Prelude.{is_ok}
use Rattle.outside_io.specs.RawFiles.{Renames}
use Rattle.outside_io.proofs.files_calls.FilesCalls.note_rename.Given as goal

abbrev pub ghost-note_call : goal.ghost-note_call
ghost-note_call a = Renames a.given.now a.also.now (is_ok a.answer)
