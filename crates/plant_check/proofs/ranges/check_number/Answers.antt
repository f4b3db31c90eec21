use Rattle.std.proofs.Common.{ap, arith}
use Rattle.std.proofs.lemmas.Bool.{le-ltb, lt-ltb}
use Rattle.plant_model.specs.declared.error.PlantError.TheVariants.{OutOfRange}
use Rattle.plant_check.proofs.RefusedTests.{none_refused, first_refused}
use Rattle.plant_check.proofs.ranges.check_number.Goals as goal

pub returns-then-number-limit : goal.returns-then-number-limit
returns-then-number-limit c =
    none_refused _ _ (le-ltb c.args.limit c.args.number (omega (arith, c.if-number-limit.true)))

pub returns : goal.returns
returns c =
    λ _. first_refused _ _ _ (lt-ltb c.args.limit c.args.number c.if-number-limit.false) (ap (λ place. OutOfRange place) c.in_ok-place.ensures)
