use Rattle.std.proofs.Common.{sym, ◌∙◌}
use Rattle.std.proofs.lemmas.Result.{MatchResult-weaker}
use Rattle.plant_model.proofs.Soundness.{Parts-from, IsSound-from}
use Rattle.plant_check.proofs.classes.check_whole.Goals as goal

pub refusals_of_plant-requires : goal.refusals_of_plant-requires
refusals_of_plant-requires c = (Parts-from c.args.plant.now c.requires).later

pub returns-clause-sound : goal.returns-clause-sound
returns-clause-sound c =
    MatchResult-weaker c.first_of.result c.first_of.ensures
    (λ _ none. IsSound-from c.args.plant.now c.requires (sym c.in_ok-refusals_of_plant.ensures ∙ none)) (λ _ _. tt)
