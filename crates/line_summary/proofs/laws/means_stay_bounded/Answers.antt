use Rattle.line_summary.proofs.Stays.{means-bounded}
use Rattle.line_summary.proofs.laws.means_stay_bounded.Goals as goal

pub returns : goal.returns
returns c = λ p sound x solves i below. means-bounded p x sound solves i below
