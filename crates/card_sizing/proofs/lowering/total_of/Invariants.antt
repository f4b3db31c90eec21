use Rattle.std.proofs.Common.{◌≡◌, ◌*◌, ◌≤◌, take}
use Rattle.std.specs.List.{sum}
use Rattle.line_base.specs.Limits.{most_cards}
use Rattle.card_sizing.proofs.lowering.total_of.Given as goal

abbrev pub invariant-loop-count : goal.invariant-loop-count
invariant-loop-count l = record {
  total : l.total ≡ sum (take l.count-index l.counts);
  small : l.total ≤ most_cards * l.count-index;
}
