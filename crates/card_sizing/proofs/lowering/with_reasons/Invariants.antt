use Rattle.std.proofs.Common.{◌≡◌, ◌+◌, ◌≤◌, length, take, map, vec_len, vec_capacity}
use Rattle.card_sizing.specs.Each.{counts_of, names_of, HaveReasons}
use Rattle.card_sizing.proofs.lowering.with_reasons.Given as goal

abbrev pub invariant-loop-i : goal.invariant-loop-i
invariant-loop-i l = record {
  counts : counts_of l.sizings.items ≡ take l.i l.counts;
  named : names_of l.sizings.items ≡ map (λ s. s.name) (take l.i l.stages);
  below : HaveReasons l.plant l.may l.counts l.sizings.items l.i;
  tries : l.tries ≤ l.initial.tries + l.i;
  kept : l.initial.tries ≤ l.tries;
  count : vec_len l.sizings ≡ l.i;
  room : length l.stages ≤ vec_capacity l.sizings;
}
