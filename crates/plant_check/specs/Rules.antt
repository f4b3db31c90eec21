-- What is refused of a stage or a loop that breaks a rule.
use Rattle.std.specs.Prelude.{ℕ, List}
use Rattle.plant_model.specs.declared.error.PlantError.{PlantError}
use Rattle.plant_model.specs.declared.plant.CardLoop.{CardLoop}
use Rattle.plant_model.specs.declared.plant.Plant.{Plant}
use Rattle.plant_model.specs.declared.plant.Stage.{Stage}
use Rattle.plant_model.specs.Refusals.{feeds_not_later, second_final, too_few_in_loop, not_downstream}
use Rattle.plant_check.specs.declared.feeds.FlowRule.{FlowRule}
use Rattle.plant_check.specs.declared.feeds.FlowRule.TheVariants.{FeedsLater, FeedsOne}
use Rattle.plant_check.specs.declared.refusals.cards.LoopRule.{LoopRule}
use Rattle.plant_check.specs.declared.refusals.cards.LoopRule.TheVariants.{EnoughCards, Downstream}

-- of stage i, where there are `count` stages
abbrev pub refused_flow : {T : Type 0} → FlowRule → ℕ → ℕ → Stage T → List PlantError
refused_flow FeedsLater count i s = feeds_not_later count i s
refused_flow FeedsOne count i s = second_final count i s

-- of loop k
abbrev pub refused_loop : LoopRule → Plant → ℕ → CardLoop → List PlantError
refused_loop EnoughCards p k l = too_few_in_loop p k l
refused_loop Downstream p k l = not_downstream p k l
