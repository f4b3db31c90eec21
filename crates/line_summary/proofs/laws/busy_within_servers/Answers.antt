use Rattle.line_summary.proofs.BusyTimes.{busy-fits}
use Rattle.line_summary.proofs.laws.busy_within_servers.Goals as goal

pub returns : goal.returns
returns c = λ p sound x solves i j below inside. busy-fits p x i j sound solves below inside
