use Rattle.std.proofs.Common.{◌≡◌, map}
use Rattle.plant_file.specs.Finish.{stage_with}
use Rattle.plant_file.proofs.finish.TimesSource.stages.Given as goal

abbrev pub invariant-loop-stage : goal.invariant-loop-stage
invariant-loop-stage l = l.made.items ≡ map (stage_with l.self.table.now) l.yielded
