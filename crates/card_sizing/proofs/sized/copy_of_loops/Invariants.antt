use Rattle.std.proofs.Common.{◌≡◌, ◌≤◌, length, take, vec_capacity}
use Rattle.card_sizing.proofs.sized.copy_of_loops.Given as goal

abbrev pub invariant-loop-card_loop : goal.invariant-loop-card_loop
invariant-loop-card_loop l = record { made : l.copy.items ≡ take l.card_loop-index l.loops; room : length l.loops ≤ vec_capacity l.copy }
