use Rattle.std.proofs.Common.{◌≡◌, ◌≤◌, length, map, vec_capacity}
use Rattle.std.specs.List.{range_with_len}
use Rattle.card_sizing.specs.Counted.{stage_counted}
use Rattle.card_sizing.proofs.sized.counted_stages.Given as goal

abbrev pub invariant-loop-i : goal.invariant-loop-i
invariant-loop-i l = record {
  made : l.copy.items ≡ map (stage_counted l.plant l.counts) (range_with_len 0 l.i);
  room : length l.stages ≤ vec_capacity l.copy;
}
