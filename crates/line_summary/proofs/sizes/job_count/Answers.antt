use Rattle.std.proofs.Common.{arith}
use Rattle.plant_model.proofs.SoundPlants.{HasSoundSizes-sound}
use Rattle.line_summary.proofs.sizes.job_count.Goals as goal

pub overflow_cast-result : goal.overflow_cast-result
overflow_cast-result c = let sizes = HasSoundSizes-sound c.args.plant.now c.requires in omega (arith, c.len.ensures)

pub returns-clause-few : goal.returns-clause-few
returns-clause-few c = let sizes = HasSoundSizes-sound c.args.plant.now c.requires in omega (arith, c.len.ensures)
