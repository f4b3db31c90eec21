use Rattle.std.proofs.Common.{refl}
use Rattle.std.specs.Prelude.{Err}
use Rattle.live_plant.specs.declared.refusals.refusal.Refusal.TheVariants.{NoMemory}
use Rattle.commands.proofs.Stops.{runs_not}
use Rattle.commands.proofs.stopping.run_until.Goals as goal

pub returns-in-Err : goal.returns-in-Err
returns-in-Err g c =
    runs_not g.S.Store.tells (g.S.Store.shown c.args.store.now) c.args.line.plant c.args.workers c.args.stop.after
    c.args.stop.save (Err NoMemory) refl
