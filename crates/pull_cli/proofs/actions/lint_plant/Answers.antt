use Rattle.pull_cli.proofs.CommandSteps.{lint_does, lint_refuses}
use Rattle.pull_cli.proofs.actions.lint_plant.Goals as goal

pub returns-in_err-text : goal.returns-in_err-text
returns-in_err-text g c = λ disk same.
    lint_refuses disk c.args.file.now c.in_err-text.field-0.0 c.from_residual.result same c.from_residual.ensures.1
    c.in_err-text.ensures

pub returns : goal.returns
returns g c = λ disk same. lint_does disk c.args.file.now c.in_ok-text.text same c.in_ok-text.ensures
