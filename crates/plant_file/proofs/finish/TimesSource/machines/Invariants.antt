use Rattle.std.proofs.Common.{◌≡◌, map}
use Rattle.plant_file.specs.Finish.{machine_with}
use Rattle.plant_file.proofs.finish.TimesSource.machines.Given as goal

abbrev pub invariant-loop-machine : goal.invariant-loop-machine
invariant-loop-machine l = l.made.items ≡ map (machine_with l.self.table.now) l.yielded
