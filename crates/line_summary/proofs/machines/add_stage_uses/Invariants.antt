use Rattle.std.proofs.Common.{◌≡◌, ◌++◌, map}
use Rattle.std.specs.List.{range_with_len}
use Rattle.line_summary.specs.Machines.{use_of}
use Rattle.line_summary.proofs.machines.add_stage_uses.Given as goal

abbrev pub invariant-loop-machine : goal.invariant-loop-machine
invariant-loop-machine l = l.uses.items ≡ l.initial.uses.items ++ map (use_of l.plant l.stage) (range_with_len 0 l.machine)
