use Rattle.plant_model.specs.Refusals.{loop_out_of_range}
use Rattle.plant_model.proofs.Passes.{Passed}
use Rattle.plant_check.proofs.ranges.check_loops.Given as goal

abbrev pub invariant-loop-k : goal.invariant-loop-k
invariant-loop-k l = Passed loop_out_of_range l.loops l.k
