use Rattle.std.proofs.Common.{◌+◌, ◌-◌, get_or}
use Rattle.card_sizing.specs.Counted.{least_at, IsStageSearch}
use Rattle.card_sizing.specs.Trying.{HasTriesLeft, IsHalving}
use Rattle.card_sizing.proofs.lowering.lower.Given as goal

abbrev pub invariant-loop-low : goal.invariant-loop-low
invariant-loop-low l = record {
  search : IsStageSearch l.plant l.may l.counts l.stage l.low l.high;
  tries : HasTriesLeft (l.initial.tries + 14) l.tries (l.high - l.low);
  halving : IsHalving l.initial.tries l.tries (get_or l.counts l.stage 0 - least_at l.plant l.stage) (l.high - l.low);
}

abbrev pub decreases-loop-low : goal.decreases-loop-low
decreases-loop-low l = l.high - l.low
