use Rattle.std.specs.Prelude.{is_ok}
use Rattle.outside_io.specs.RawFiles.{Syncs}
use Rattle.outside_io.proofs.files_calls.FilesCalls.note_sync.Given as goal

abbrev pub ghost-note_call : goal.ghost-note_call
ghost-note_call a = Syncs (is_ok a.answer)
