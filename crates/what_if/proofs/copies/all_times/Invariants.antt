use Rattle.what_if.specs.Edited.{times_of}
use Rattle.what_if.proofs.Made.{AreMade, values}
use Rattle.what_if.proofs.copies.all_times.Given as goal

abbrev pub invariant-loop-t : goal.invariant-loop-t
invariant-loop-t l = AreMade (values (times_of l.graph) 0) l.stations l.t l.rows
