use Rattle.std.proofs.Common.{◌≡◌, ◌++◌, take}
use Rattle.std.specs.List.{flat_map}
use Rattle.std.specs.Prelude.{string_bytes}
use Rattle.plant_lint.specs.Texts.{fault_line}
use Rattle.plant_lint.proofs.lines.add_each.Given as goal

abbrev pub invariant-loop-n : goal.invariant-loop-n
invariant-loop-n g l = string_bytes l.text ≡ string_bytes l.initial.text ++ flat_map (fault_line (g.R.Remarks.remark l.remarks)) (take l.n l.faults)
