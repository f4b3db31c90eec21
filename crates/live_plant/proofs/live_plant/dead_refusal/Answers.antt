use Rattle.std.proofs.Common.{inr, refl}
use Rattle.live_plant.proofs.live_plant.dead_refusal.Goals as goal

pub returns-in-Err : goal.returns-in-Err
returns-in-Err c = inr refl
