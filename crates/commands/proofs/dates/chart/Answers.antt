use Rattle.commands.proofs.DateAnswers.{may_ask, draws, draws_none}
use Rattle.commands.proofs.DatedPlants.{dated_of}
use Rattle.commands.proofs.dates.chart.Goals as goal

pub of-requires-clause-of_plant : goal.of-requires-clause-of_plant
of-requires-clause-of_plant c = dated_of c.args.line c.in_ok-plant.field-0 c.requires.plant c.in_ok-plant.ensures

pub of-requires-clause-window : goal.of-requires-clause-window
of-requires-clause-window c = may_ask c.args.window c.requires.window

pub returns-in-Ok : goal.returns-in-Ok
returns-in-Ok c =
    let dates = c.in_ok-plant.ensures in
    draws c.args.line.plant c.in_ok-plant.field-0.table.rows c.args.window c.in-Ok.chart dates.least.least
    (rw dates.plant at c.in-Ok.ensures.drawn) c.in-Ok.ensures.small

pub returns-in-Err-TooLarge : goal.returns-in-Err-TooLarge
returns-in-Err-TooLarge c =
    let dates = c.in_ok-plant.ensures in
    let large = rw (c.in-Err-TooLarge.field-0-is, dates.plant) at c.in-Err-TooLarge.ensures.refused in
    draws_none c.args.line.plant c.in_ok-plant.field-0.table.rows c.args.window c.in-Err-TooLarge.bars
    dates.least.least large
