use Rattle.std.proofs.Common.{arith}
use Rattle.plant_model.specs.Line.{release}
use Rattle.plant_model.proofs.LayoutStations.{release-below}
use Rattle.plant_model.proofs.LayoutFacts.{numbered-inside, numbered-read}
use Rattle.plant_model.proofs.numbers.LineNumbers.release.Goals as goal

pub index-requires : goal.index-requires
index-requires c = numbered-inside release c.args.self.now _ c.self.inside.releases c.args.stage c.self.view_is c.self.invariant.all_stations (omega arith)

pub returns : goal.returns
returns c =
    let p = c.args.self.now in
    let read = numbered-read release p _ _ c.args.stage _ c.self.view_is c.self.invariant.all_stations (omega arith) c.index.ensures in
    record { station = read; exists = omega (arith, read, release-below p c.args.stage c.requires) }
