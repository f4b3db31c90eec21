use Rattle.plant_model.specs.Paths.{ArePathRows}
use Rattle.plant_model.proofs.path_table.path_rows.Given as goal

abbrev pub invariant-loop-i : goal.invariant-loop-i
invariant-loop-i l = ArePathRows l.plant l.i l.rows.items
