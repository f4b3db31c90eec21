use Rattle.line_core.proofs.Bounds.{reached_is_within}
use Rattle.line_core.proofs.laws.dates_stay_early.Goals as goal

pub returns : goal.returns
returns c = λ g limits s reached. reached_is_within g s limits reached
