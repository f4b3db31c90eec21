use Rattle.std.proofs.Common.{refl}
use Rattle.live_plant.proofs.refusals.refusal.Refusal.status.Goals as goal

pub returns-in-Disk : goal.returns-in-Disk
returns-in-Disk c = rw c.in-Disk.is refl
