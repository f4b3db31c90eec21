use Rattle.std.proofs.Common.{◌++◌, ◌∷◌, []}
use Rattle.outside_io.proofs.noting.note_call.Given as goal

-- the calls of before, and this one
abbrev pub ghost-of : goal.ghost-of
ghost-of g a = a.from.now.items ++ g.call ∷ []
