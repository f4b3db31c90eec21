use Rattle.std.proofs.Common.{◌++◌, ◌∷◌, []}
use Rattle.card_queue.proofs.looks.Looks.count.Given as goal

-- the marks of before, and one more
abbrev pub ghost-of : goal.ghost-of
ghost-of a = a.from.now.value.items ++ tt ∷ []
