use Rattle.std.proofs.lemmas.Result.{MatchResult-weaker}
use Rattle.plant_model.proofs.PlainSound.{IsSoundPlant-sound}
use Rattle.plant_check.proofs.classes.check.Goals as goal

pub returns-clause-plain : goal.returns-clause-plain
returns-clause-plain c =
    MatchResult-weaker c.check_whole.result c.check_whole.ensures.sound (λ _ sound. IsSoundPlant-sound c.args.plant.now sound) (λ _ _. tt)
