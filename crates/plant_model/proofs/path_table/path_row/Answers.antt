use Rattle.std.proofs.Common.{◌∙◌}
use Rattle.plant_model.proofs.PathTables.{IsPathRow-final}
use Rattle.plant_model.proofs.path_table.path_row.Goals as goal

pub returns-in-None : goal.returns-in-None
returns-in-None c =
    IsPathRow-final c.args.plant.now c.requires.later c.args.i c.from.result c.requires.exists c.in-None.ensures
    (c.from.ensures ∙ c.starting_stock.ensures) (rw c.from.ensures c.starting_stock.type_inv)
