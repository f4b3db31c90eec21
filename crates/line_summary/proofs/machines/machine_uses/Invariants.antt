use Rattle.std.proofs.Common.{◌≡◌}
use Rattle.std.specs.List.{flat_map, range_with_len}
use Rattle.line_summary.specs.Machines.{stage_uses}
use Rattle.line_summary.proofs.machines.machine_uses.Given as goal

abbrev pub invariant-loop-stage : goal.invariant-loop-stage
invariant-loop-stage l = l.uses.items ≡ flat_map (stage_uses l.plant) (range_with_len 0 l.stage)
