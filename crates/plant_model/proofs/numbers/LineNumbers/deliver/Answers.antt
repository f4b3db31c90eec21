use Rattle.std.proofs.Common.{◌≡◌, ◌∙◌, ◌-◌, length, arith}
use Rattle.plant_model.specs.Line.{release}
use Rattle.plant_model.proofs.LayoutStations.{release-all}
use Rattle.plant_model.proofs.LayoutFacts.{length-numbered, numbered-read}
use Rattle.plant_model.proofs.numbers.LineNumbers.deliver.Goals as goal

pub returns : goal.returns
returns c =
    let p = c.args.self.now in
    let long = length-numbered release p _ _ c.self.view_is c.self.invariant.all_stations in
    let last : c.len.result - 1 ≡ length p.stages = omega arith in
    let read = rw last at c.index.ensures in
    let is = numbered-read release p _ _ (length p.stages) _ c.self.view_is c.self.invariant.all_stations (omega arith) read ∙ release-all p in
    record { station = is; exists = omega (arith, is) }
