use Rattle.line_summary.proofs.SamePoints.{one_curve}
use Rattle.line_summary.proofs.laws.plants_have_one_curve.Goals as goal

pub returns : goal.returns
returns c = one_curve
