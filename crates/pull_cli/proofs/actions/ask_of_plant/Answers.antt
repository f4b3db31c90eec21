use Rattle.std.proofs.Common.{refl}
use Rattle.command_line.specs.declared.command.Command.TheVariants.{OnPlant}
use Rattle.pull_cli.proofs.CommandSteps.{plant_does, no_plant}
use Rattle.pull_cli.proofs.actions.ask_of_plant.Goals as goal

pub returns-in_err-line : goal.returns-in_err-line
returns-in_err-line g c = λ disk same.
    no_plant disk c.args.plant.now (OnPlant c.args.plant.now c.args.question) c.in_err-line.field-0.0
    c.from_residual.result refl same c.from_residual.ensures.1 c.in_err-line.ensures.makes

pub returns : goal.returns
returns g c = λ disk same.
    plant_does disk c.args.plant.now c.args.question c.in_ok-line.line.plant c.ask_plant.result same
    c.in_ok-line.ensures.makes c.ask_plant.ensures.answers c.ask_plant.ensures.inside
