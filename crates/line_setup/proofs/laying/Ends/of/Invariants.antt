use Rattle.std.proofs.Common.{◌≡◌}
use Rattle.line_setup.specs.Start.{AreLaidFor}
use Rattle.line_setup.proofs.laying.Ends.of.Given as goal

abbrev pub invariant-loop-a : goal.invariant-loop-a
invariant-loop-a l = record { laid : AreLaidFor l.start l.ends l.a; room : l.ends.room ≡ l.start.room }
