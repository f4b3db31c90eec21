use Rattle.std.proofs.Common.{arith}
use Rattle.plant_model.proofs.LayoutFacts.{few_stages}
use Rattle.line_summary.proofs.sizes.stage_count.Goals as goal

pub overflow_cast-result : goal.overflow_cast-result
overflow_cast-result c = omega (arith, few_stages _ c.requires)
