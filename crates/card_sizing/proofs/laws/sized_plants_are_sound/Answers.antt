use Rattle.card_sizing.proofs.SizedSound.{sound_sized}
use Rattle.card_sizing.proofs.laws.sized_plants_are_sound.Goals as goal

pub returns : goal.returns
returns c = λ p sound single count enough few. sound_sized p count sound single enough few
