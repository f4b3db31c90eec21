use Rattle.std.proofs.Common.{arith}
use Rattle.plant_model.proofs.LayoutFacts.{few_stages}
use Rattle.line_chart.proofs.heights.areas_end.Goals as goal

pub overflow_mul-result-2 : goal.overflow_mul-result-2
overflow_mul-result-2 c = omega (arith, few_stages c.args.run.now.plant c.requires.run.of_plant.sound, c.requires.few)

pub overflow_add-result-2 : goal.overflow_add-result-2
overflow_add-result-2 c = omega (arith, few_stages c.args.run.now.plant c.requires.run.of_plant.sound, c.requires.few, c.requires.run.small)

pub returns-clause-end : goal.returns-clause-end
returns-clause-end c = omega (arith, c.requires.run.lanes)

pub returns-clause-small : goal.returns-clause-small
returns-clause-small c = omega (arith, few_stages c.args.run.now.plant c.requires.run.of_plant.sound, c.requires.few, c.requires.run.small)
