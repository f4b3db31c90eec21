use Rattle.std.proofs.Common.{arith}
use Rattle.plant_model.proofs.SoundPlants.{HasSoundSizes-sound}
use Rattle.card_sizing.proofs.lowest.highest_count.Goals as goal

pub overflow_cast-jobs : goal.overflow_cast-jobs
overflow_cast-jobs c =
    omega (arith, c.len-jobs.ensures, (HasSoundSizes-sound c.args.plant.now c.requires).few_demands)
