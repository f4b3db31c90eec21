use Rattle.std.proofs.Common.{◌<◌, length, arith}
use Rattle.plant_model.proofs.SoundPlants.{HasSoundSizes-sound}
use Rattle.card_sizing.proofs.lowering.total_of.Goals as goal

pub overflow_add-total : goal.overflow_add-total
overflow_add-total c =
    let i = c.loop-count.count-index in
    let low : i < length c.args.plant.now.stages = omega (arith, c.requires.fit.number) in
    omega (arith, c.requires.fit.within i low, c.loop-count.invariant.small, (HasSoundSizes-sound c.args.plant.now c.requires.sound).few_stages)
