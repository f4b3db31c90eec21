use Rattle.std.proofs.Common.{[]}
use Rattle.plant_keys.specs.declared.faults.Asked.TheVariants.{All}
use Rattle.plant_lint.proofs.plant.faults_of.Goals as goal

pub returns : goal.returns
returns c = c.into_list.ensures _ (c.add_plain.ensures.more All [] c.new-faults.ensures)
