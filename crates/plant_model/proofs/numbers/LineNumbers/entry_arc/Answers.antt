use Rattle.std.proofs.Common.{arith}
use Rattle.plant_model.specs.ArcNumbers.{entry_arc}
use Rattle.plant_model.proofs.LayoutFacts.{numbered-inside, numbered-read}
use Rattle.plant_model.proofs.numbers.LineNumbers.entry_arc.Goals as goal

pub index-requires : goal.index-requires
index-requires c = numbered-inside entry_arc c.args.self.now _ c.self.inside.entries c.args.stage c.self.view_is c.self.invariant.all_arcs (omega arith)

pub returns : goal.returns
returns c = numbered-read entry_arc c.args.self.now _ _ c.args.stage _ c.self.view_is c.self.invariant.all_arcs (omega arith) c.index.ensures
