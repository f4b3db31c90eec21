use Rattle.std.proofs.Common.{◌≡◌, ◌++◌}
use Rattle.std.specs.List.{flat_map, range_with_len}
use Rattle.answers.specs.CycleText.{potential_line}
use Rattle.answers.proofs.cycle.add_potentials.Given as goal

-- the lines of the stations before are added
abbrev pub invariant-loop-t : goal.invariant-loop-t
invariant-loop-t l = l.text.items ≡ l.initial.text.items ++ flat_map (potential_line l.graph l.potentials) (range_with_len 0 l.t)
