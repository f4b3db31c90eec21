use Rattle.std.proofs.Common.{ℕ, ◌+◌, ◌-◌, ◌^◌, ◌<◌}
use Rattle.card_sizing.specs.Sizing.{IsSearch}
use Rattle.card_sizing.specs.Trying.{HasTriesLeft}
use Rattle.card_sizing.proofs.least.halve.Given as goal

abbrev pub invariant-loop-low : goal.invariant-loop-low
invariant-loop-low l = record {
  search : IsSearch l.plant l.may l.low l.high l.below;
  tries : (k : ℕ) → l.end - l.start < 2 ^ k → HasTriesLeft (1 + k) l.tries (l.high - l.low);
}

abbrev pub decreases-loop-low : goal.decreases-loop-low
decreases-loop-low l = l.high - l.low
