use Rattle.std.proofs.Common.{◌∙◌, arith}
use Rattle.plant_model.proofs.Soundness.{FeedsLater-from}
use Rattle.plant_model.proofs.PathTables.{NextRow-from, jump-row, IsPathRow-next}
use Rattle.plant_model.proofs.path_table.row_before.Goals as goal

pub bounds-rows-next : goal.bounds-rows-next
bounds-rows-next c =
    (NextRow-from c.args.plant.now c.args.rows.now c.args.i c.args.next c.requires.later c.requires.exists c.requires.right c.requires.fed).inside

pub overflow_add-result : goal.overflow_add-result
overflow_add-result c =
    let row = NextRow-from c.args.plant.now c.args.rows.now c.args.i c.args.next c.requires.later c.requires.exists c.requires.right c.requires.fed in
    omega (arith, row.right.small c.ranges.next.fits, row.later, c.from.ensures, c.starting_stock.type_inv)

pub overflow_add-result-2 : goal.overflow_add-result-2
overflow_add-result-2 c =
    let row = NextRow-from c.args.plant.now c.args.rows.now c.args.i c.args.next c.requires.later c.requires.exists c.requires.right c.requires.fed in
    omega (arith, row.right.few, row.later, c.requires.exists, c.ranges.next.fits)

pub jump_before-requires-clause-exists : goal.jump_before-requires-clause-exists
jump_before-requires-clause-exists c =
    (NextRow-from c.args.plant.now c.args.rows.now c.args.i c.args.next c.requires.later c.requires.exists c.requires.right c.requires.fed).inside

pub jump_before-requires-clause-second : goal.jump_before-requires-clause-second
jump_before-requires-clause-second c =
    let row = NextRow-from c.args.plant.now c.args.rows.now c.args.i c.args.next c.requires.later c.requires.exists c.requires.right c.requires.fed in
    omega (arith, row.right.exists, c.requires.right.long)

pub jump_before-requires-clause-third : goal.jump_before-requires-clause-third
jump_before-requires-clause-third c =
    let row = NextRow-from c.args.plant.now c.args.rows.now c.args.i c.args.next c.requires.later c.requires.exists c.requires.right c.requires.fed in
    let second = jump-row c.args.plant.now c.args.rows.now c.args.i c.args.next (FeedsLater-from c.args.plant.now c.requires.later) c.requires.right row in
    omega (arith, second.exists, c.requires.right.long)

pub returns : goal.returns
returns c =
    let row = NextRow-from c.args.plant.now c.args.rows.now c.args.i c.args.next c.requires.later c.requires.exists c.requires.right c.requires.fed in
    IsPathRow-next c.args.plant.now c.requires.later c.args.rows.now c.args.i c.args.next c.from.result c.jump_before.result
    c.requires.exists c.requires.right row (c.from.ensures ∙ c.starting_stock.ensures) (rw c.from.ensures c.starting_stock.type_inv)
    c.ranges.next.fits c.jump_before.ensures
