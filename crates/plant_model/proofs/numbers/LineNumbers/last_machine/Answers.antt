use Rattle.std.proofs.Common.{◌≡◌, ◌+◌, arith}
use Rattle.plant_model.specs.Line.{release, last_machine}
use Rattle.plant_model.proofs.LayoutStations.{release-next, last_machine-below}
use Rattle.plant_model.proofs.LayoutFacts.{numbered-inside, numbered-read}
use Rattle.plant_model.proofs.numbers.LineNumbers.last_machine.Goals.{After-index}
use Rattle.plant_model.proofs.numbers.LineNumbers.last_machine.Goals as goal

-- the next release was read
read : (c : After-index) → c.index.result.now ≡ last_machine c.args.self.now c.args.stage + 1
read c =
    let p = c.args.self.now in
    let next = numbered-read release p _ _ (c.args.stage + 1) _ c.self.view_is c.self.invariant.all_stations (omega arith) c.index.ensures in
    omega (arith, next, release-next p c.args.stage c.requires)

pub index-requires : goal.index-requires
index-requires c =
    numbered-inside release c.args.self.now _ c.self.inside.releases (c.args.stage + 1) c.self.view_is c.self.invariant.all_stations (omega arith)

pub overflow_sub-result : goal.overflow_sub-result
overflow_sub-result c = omega (arith, read (goal.at.overflow_sub-result c).After-index)

pub returns : goal.returns
returns c =
    let next = read (goal.at.returns c).After-index in
    record { station = omega arith; exists = omega (arith, last_machine-below c.args.self.now c.args.stage c.requires) }
