use Rattle.std.proofs.Common.{◌∙◌}
use Rattle.toml.specs.View.{view}
use Rattle.plant_file.specs.Reading.{machine_of}
use Rattle.plant_file.proofs.Built.{built_more, built_all}
use Rattle.plant_file.proofs.build.machines_of.Goals as goal

pub loop-machine-init : goal.loop-machine-init
loop-machine-init c = c.in_ok-drafts.ensures.items

pub loop-machine-preserved : goal.loop-machine-preserved
loop-machine-preserved c =
    c.in_ok-push.ensures ∙ built_more
    (λ m. machine_of (view m))
    c.args.machines.now c.loop-machine.machine-index c.machine-item.result _ _ c.loop-machine.invariant c.loop-machine-test.true c.machine-item.is c.in_ok-machine_of.ensures

pub returns : goal.returns
returns c =
    c.from_vec.ensures ∙ built_all (λ m. machine_of (view m)) c.args.machines.now c.loop-machine.machine-index _ c.loop-machine.invariant c.loop-machine-test.false
