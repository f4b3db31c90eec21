use Rattle.line_stats.proofs.StandingParts.{standing-bounded}
use Rattle.line_stats.proofs.laws.stages_stay_bounded.Goals as goal

pub returns : goal.returns
returns c = λ p sound x solves i v below. standing-bounded p x i v sound solves below
