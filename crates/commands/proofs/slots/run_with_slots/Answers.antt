use Rattle.std.proofs.Common.{refl}
use Rattle.std.specs.Prelude.{Err}
use Rattle.plant_model.specs.Graph.{graph}
use Rattle.live_plant.specs.declared.refusals.refusal.Refusal.TheVariants.{NoMemory}
use Rattle.commands.proofs.SlotRuns.{kept_at_first, run_no_memory}
use Rattle.commands.proofs.slots.run_with_slots.Goals as goal

pub returns-in-Err : goal.returns-in-Err
returns-in-Err g c =
    let view = g.D.Disk.shown c.args.disk.now in
    run_no_memory g.D.Disk.tells view view c.args.line.plant c.args.every
    (kept_at_first g.D.Disk.tells view (graph c.args.line.plant)) (Err NoMemory) refl

pub returns-in-Ok : goal.returns-in-Ok
returns-in-Ok g c = c.run_saving.ensures
