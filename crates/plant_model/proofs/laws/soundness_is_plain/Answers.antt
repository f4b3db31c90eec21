use Rattle.plant_model.proofs.PlainSound.{IsSoundPlant-sound, IsSound-plain}
use Rattle.plant_model.proofs.laws.soundness_is_plain.Goals as goal

pub returns-clause-facts : goal.returns-clause-facts
returns-clause-facts c = IsSoundPlant-sound

pub returns-clause-enough : goal.returns-clause-enough
returns-clause-enough c = IsSound-plain
