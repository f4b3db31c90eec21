use Rattle.std.proofs.Common.{◌++◌}
use Rattle.line_base.proofs.transcript.Transcript.with.Given as goal

-- the items of before, and the piece
abbrev pub ghost-of : goal.ghost-of
ghost-of g a = a.from.now.0.now.items ++ a.from.now.1.now
