use Rattle.std.proofs.Common.{[]}
use Rattle.plant_keys.specs.declared.faults.Asked.TheVariants.{All}
use Rattle.plant_keys.specs.Walk.{tree_faults}
use Rattle.toml.specs.View.{view}
use Rattle.plant_file.proofs.read.read_tree_or_faults.Goals as goal

pub draft_or_faults-requires : goal.draft_or_faults-requires
draft_or_faults-requires c =
    let found = c.find_in_plant-names.ensures.found.more All [] c.new-faults.ensures in
    record { list = c.in-Ok.ensures (tree_faults (view c.args.top.now)) found; names = c.find_in_plant-names.ensures.names }
