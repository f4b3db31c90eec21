use Rattle.cycle_time.specs.Ratio.{IsRatio}
use Rattle.cycle_time.proofs.Ratios.{room_above}
use Rattle.cycle_time.proofs.greatest_ratio.certificate_of.Given as goal

abbrev pub invariant-loop-best : goal.invariant-loop-best
invariant-loop-best l = IsRatio l.live.graph l.best

abbrev pub decreases-loop-best : goal.decreases-loop-best
decreases-loop-best l = room_above l.best.time l.best.cards
