use Rattle.std.proofs.Common.{◌≡◌, map, take}
use Rattle.plant_file.specs.Finish.{loop_with}
use Rattle.plant_file.proofs.finish.loops_with.Given as goal

abbrev pub invariant-loop-card_loop : goal.invariant-loop-card_loop
invariant-loop-card_loop l = l.made.items ≡ map (loop_with l.count) (take l.card_loop-index l.loops)
