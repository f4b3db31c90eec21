use Rattle.toml.specs.View.{view}
use Rattle.plant_keys.proofs.GatheredFaults.{Gathered}
use Rattle.plant_keys.proofs.rows.find_in_rows.Given as goal

abbrev pub invariant-loop-n : goal.invariant-loop-n
invariant-loop-n g l =
    Gathered (λ n v. g.R.Rows.found l.search n (view v)) l.rows l.n l.initial.faults l.faults
