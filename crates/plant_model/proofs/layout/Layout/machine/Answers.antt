use Rattle.std.proofs.Common.{◌≡◌, ◌∙◌, ◌<◌, ap, subst, arith}
use Rattle.plant_model.specs.declared.plant.Plant.{Plant}
use Rattle.plant_model.specs.Line.{release, last_machine}
use Rattle.plant_model.specs.Sound.{IsSound}
use Rattle.plant_model.proofs.LayoutFacts.{small_last_machine}
use Rattle.plant_model.proofs.layout.Layout.machine.Goals.{After-release}
use Rattle.plant_model.proofs.layout.Layout.machine.Goals as goal

read : (c : After-release) → c.release.result ≡ release c.args.self.now c.args.stage
read c = c.release.ensures.station ∙ ap (λ (p : Plant). release p c.args.stage) (c.self.invariant.same ∙ c.self.view_is)

small : (c : After-release) → last_machine c.args.self.now c.args.stage < 511
small c = small_last_machine c.args.self.now c.args.stage (subst IsSound c.self.view_is c.self.invariant.sound) c.requires.stage

pub overflow_add-result : goal.overflow_add-result
overflow_add-result c = let at = (goal.at.overflow_add-result c).After-release in omega (arith, read at, small at)

pub overflow_add-result-2 : goal.overflow_add-result-2
overflow_add-result-2 c =
    let at = (goal.at.overflow_add-result-2 c).After-release in
    omega (arith, read at, small at, c.requires.machine)
