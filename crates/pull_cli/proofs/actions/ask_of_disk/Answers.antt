use Rattle.std.proofs.Common.{refl}
use Rattle.command_line.specs.declared.command.Command.TheVariants.{OnDisk}
use Rattle.live_plant.specs.Actions.{disk_over}
use Rattle.pull_cli.proofs.CommandSteps.{no_plant, slots_do}
use Rattle.pull_cli.proofs.actions.ask_of_disk.Goals as goal

pub returns-in_err-line : goal.returns-in_err-line
returns-in_err-line g c =
    let view = g.D.Disk.shown c.args.disk.now in
    no_plant (disk_over g.D.Disk.tells view view) c.args.plant.now (OnDisk c.args.plant.now c.args.question)
    c.in_err-line.field-0.0 c.from_residual.result refl refl c.from_residual.ensures.1 c.in_err-line.ensures.makes

pub returns : goal.returns
returns g c =
    slots_do (disk_over g.D.Disk.tells (g.D.Disk.shown c.args.disk.now) (g.D.Disk.shown c.ask_disk.new.disk))
    c.args.plant.now c.args.question c.in_ok-line.line.plant c.ask_disk.result c.in_ok-line.ensures.makes
    c.ask_disk.ensures
