use Rattle.std.proofs.Common.{sym, subst}
use Rattle.plant_model.specs.Sound.{IsSound}
use Rattle.card_sizing.proofs.SizedSound.{sound_sized}
use Rattle.card_sizing.proofs.trying.try_count.Goals as goal

pub try_plant-known-requires : goal.try_plant-known-requires
try_plant-known-requires c =
    subst IsSound (sym c.in_ok-sized.ensures) (sound_sized c.args.plant.now c.args.count c.requires.sound c.requires.single c.requires.enough c.requires.few)
