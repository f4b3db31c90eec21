use Rattle.std.proofs.Common.{◌∙◌}
use Rattle.commands.proofs.DateAnswers.{chains}
use Rattle.commands.proofs.DatedPlants.{dated_of}
use Rattle.commands.proofs.causes.causes_of.Goals as goal

pub new-requires-clause-of_plant : goal.new-requires-clause-of_plant
new-requires-clause-of_plant c = dated_of c.args.line c.in_ok-plant.field-0 c.requires.plant c.in_ok-plant.ensures

pub new-requires-clause-station : goal.new-requires-clause-station
new-requires-clause-station c = rw c.in_ok-plant.ensures.plant c.requires.station

pub new-requires-clause-job : goal.new-requires-clause-job
new-requires-clause-job c = rw c.in_ok-plant.ensures.plant c.requires.job

pub returns : goal.returns
returns c =
    let dates = c.in_ok-plant.ensures in
    let is = c.in_ok-causes.ensures in
    chains c.args.line.plant c.args.station c.args.job c.in_ok-plant.field-0.table.rows c.in_ok-causes.causes
    (is.plant ∙ dates.plant) dates.least.least is.chain
