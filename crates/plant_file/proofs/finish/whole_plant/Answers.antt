use Rattle.std.proofs.Common.{◌≡◌, [], Err, refl, rules, ap}
use Rattle.plant_model.specs.Refusals.{whole_refusals}
use Rattle.plant_model.specs.Sound.{IsSound}
use Rattle.plant_file.specs.Finish.{plant_or_first}
use Rattle.plant_file.proofs.FinishAnswers.{AnswersPlant-refused}
use Rattle.plant_file.proofs.finish.whole_plant.Goals as goal

pub returns-in-Err-clause-plant : goal.returns-in-Err-clause-plant
returns-in-Err-clause-plant c =
    AnswersPlant-refused (Err c.in-Err.refusal) (whole_refusals c.args.plant) c.args.plant refl c.in-Err.ensures.first

pub returns-in-Err-clause-sound : goal.returns-in-Err-clause-sound
returns-in-Err-clause-sound c = tt

pub returns-in-Ok-clause-plant : goal.returns-in-Ok-clause-plant
returns-in-Ok-clause-plant c =
    let none : whole_refusals c.args.plant ≡ [] = search rules in
    ap (λ refusals. plant_or_first refusals c.args.plant) none

pub returns-in-Ok-clause-sound : goal.returns-in-Ok-clause-sound
returns-in-Ok-clause-sound c =
    let sound : IsSound c.args.plant = search rules in
    sound
