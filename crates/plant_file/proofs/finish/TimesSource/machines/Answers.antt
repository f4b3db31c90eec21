use Rattle.std.proofs.Common.{refl, ◌∙◌}
use Rattle.plant_file.specs.Finish.{machine_with}
use Rattle.plant_file.proofs.Built.{built_push}
use Rattle.plant_file.proofs.finish.TimesSource.machines.Goals as goal

pub loop-machine-init : goal.loop-machine-init
loop-machine-init c = c.in_ok-made.ensures.items

pub loop-machine-preserved : goal.loop-machine-preserved
loop-machine-preserved c =
    c.in_ok-push.ensures
    ∙ built_push (machine_with c.args.self.now.table.now) c.loop-machine.yielded c.in-Some.machine _ _ c.loop-machine.invariant
    (rw (c.with_times.ensures, c.split-times.ensures.machine, c.in_ok-times.ensures, c.split-times.ensures.times) refl)
