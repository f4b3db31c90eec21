use Rattle.std.proofs.Common.{refl}
use Rattle.live_plant.specs.Actions.{DiskOver, disk_over}
use Rattle.pull_cli.proofs.top.do_command.Goals as goal

pub returns-in-Standing : goal.returns-in-Standing
returns-in-Standing g c =
    let view = g.D.Disk.shown c.args.disk.now in
    let disk : DiskOver = disk_over g.D.Disk.tells view view in
    rw c.in-Standing.is (c.stand_plant.ensures disk refl)
