use Rattle.std.specs.Prelude.{is_ok}
use Rattle.outside_io.specs.RawFiles.{Opens}
use Rattle.outside_io.proofs.files_calls.FilesCalls.note_open.Given as goal

abbrev pub ghost-note_call : goal.ghost-note_call
ghost-note_call a = Opens a.given.now (is_ok a.answer)
