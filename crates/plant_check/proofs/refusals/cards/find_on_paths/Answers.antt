use Rattle.plant_check.proofs.CollectedRefusals.{then_two}
use Rattle.plant_check.proofs.refusals.cards.find_on_paths.Goals as goal

pub returns : goal.returns
returns c =
    then_two _ _ _ _ _ _ _ _ c.in_ok-find_few_by_policy.ensures c.in_ok-find_in_loops.ensures c.find_in_loops-2.ensures
