use Rattle.std.proofs.Common.{refl}
use Rattle.commands.proofs.dates.with_dates.Goals as goal

pub returns-in-Ok : goal.returns-in-Ok
returns-in-Ok c = record {
  plant = refl;
  live = refl;
  least = rw c.requires.plant.graph at (rw c.in-Ok.is at c.requires.table);
}
