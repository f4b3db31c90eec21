use Rattle.std.proofs.Common.{◌<◌, ◌≤◌, length, arith, sym, ap, ◌∙◌}
use Rattle.plant_lint.proofs.FaultLints.{some_faults, no_faults}
use Rattle.plant_lint.specs.declared.lint.Lint.TheVariants.{Refused, Sound}
use Rattle.plant_lint.proofs.plant.faults_or_plant_notes.Goals as goal

pub returns-then-list-gt0 : goal.returns-then-list-gt0
returns-then-list-gt0 c faults are =
    let some : 0 < length faults = omega (arith, are.count) in
    ap Refused (c.in_ok-lines.ensures faults are) ∙ sym (some_faults _ faults _ some)

pub returns : goal.returns
returns c faults are =
    let none : length faults ≤ 0 = omega (arith, are.count) in
    rw (no_faults faults none) (ap Sound (c.from_string-notes.ensures ∙ c.in_ok-plant_notes.ensures))
