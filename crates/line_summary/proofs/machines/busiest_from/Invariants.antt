use Rattle.std.proofs.Common.{◌≡◌, take}
use Rattle.std.specs.List.{best_of}
use Rattle.line_summary.specs.Machines.{is_busier}
use Rattle.line_summary.proofs.machines.busiest_from.Given as goal

abbrev pub invariant-loop-other : goal.invariant-loop-other
invariant-loop-other l = l.best ≡ best_of is_busier l.fn.first (take l.other-index l.others)
