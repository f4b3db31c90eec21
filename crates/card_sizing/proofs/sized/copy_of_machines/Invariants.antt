use Rattle.std.proofs.Common.{◌≡◌, ◌≤◌, length, take, vec_capacity}
use Rattle.card_sizing.proofs.sized.copy_of_machines.Given as goal

abbrev pub invariant-loop-machine : goal.invariant-loop-machine
invariant-loop-machine l = record { made : l.copy.items ≡ take l.machine-index l.machines; room : length l.machines ≤ vec_capacity l.copy }
