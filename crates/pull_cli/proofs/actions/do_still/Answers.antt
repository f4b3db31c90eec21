use Rattle.std.proofs.Common.{refl}
use Rattle.live_plant.specs.Actions.{DiskOver, disk_over}
use Rattle.pull_cli.proofs.CommandSteps.{alone_does}
use Rattle.pull_cli.proofs.actions.do_still.Goals as goal

pub returns-in-Alone : goal.returns-in-Alone
returns-in-Alone g c =
    let view = g.D.Disk.shown c.args.disk.now in
    rw c.in-Alone.is
    (alone_does g.S.Store.tells (g.S.Store.shown c.args.store.now) (disk_over g.D.Disk.tells view view)
    c.in-Alone.question c.ask_alone.result refl c.ask_alone.ensures.answers c.ask_alone.ensures.inside)

pub returns-in-Lint : goal.returns-in-Lint
returns-in-Lint g c =
    let view = g.D.Disk.shown c.args.disk.now in
    let disk : DiskOver = disk_over g.D.Disk.tells view view in
    rw c.in-Lint.is (rw c.as_str.ensures at (c.lint_plant.ensures disk refl))

pub returns-in-OnPlant : goal.returns-in-OnPlant
returns-in-OnPlant g c =
    let view = g.D.Disk.shown c.args.disk.now in
    let disk : DiskOver = disk_over g.D.Disk.tells view view in
    rw c.in-OnPlant.is (c.ask_of_plant.ensures disk refl)

pub returns-in-OnFile : goal.returns-in-OnFile
returns-in-OnFile g c =
    let view = g.D.Disk.shown c.args.disk.now in
    let disk : DiskOver = disk_over g.D.Disk.tells view view in
    rw c.in-OnFile.is (rw c.as_str-in-OnFile.ensures at (c.ask_of_file.ensures disk refl))

pub returns-in-Standing : goal.returns-in-Standing
returns-in-Standing g c =
    let view = g.D.Disk.shown c.args.disk.now in
    let disk : DiskOver = disk_over g.D.Disk.tells view view in
    rw c.in-Standing.is (c.ask_of_plant-in-Standing.ensures disk refl)

pub returns-in-Stopping : goal.returns-in-Stopping
returns-in-Stopping g c =
    let view = g.D.Disk.shown c.args.disk.now in
    let disk : DiskOver = disk_over g.D.Disk.tells view view in
    rw c.in-Stopping.is (c.stop_plant.ensures disk refl)

pub returns-in-OnDisk : goal.returns-in-OnDisk
returns-in-OnDisk g c = rw c.in-OnDisk.is c.ask_of_disk.ensures
