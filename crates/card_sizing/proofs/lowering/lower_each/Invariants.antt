use Rattle.std.proofs.Common.{◌≡◌, ℕ, ◌+◌, ◌-◌, ◌*◌, ◌^◌, ◌<◌, ◌≤◌, length, get_or}
use Rattle.card_sizing.specs.Counted.{least_at, ServeEach, NoneServesLessFrom}
use Rattle.card_sizing.specs.Lowered.{AreLastLowered}
use Rattle.card_sizing.proofs.lowering.lower_each.Given as goal

abbrev pub invariant-loop-done : goal.invariant-loop-done
invariant-loop-done l = record {
  serves : ServeEach l.plant l.may l.counts;
  least : NoneServesLessFrom l.plant l.may l.counts (length l.plant.stages - l.done);
  in_order : AreLastLowered (ServeEach l.plant l.may) l.initial.counts l.done l.counts;
  first_stages : (j : ℕ) → j < length l.plant.stages - l.done → get_or l.counts j 0 ≡ get_or l.initial.counts j 0;
  halved : (k : ℕ) → ((i : ℕ) → i < length l.plant.stages → 2 ^ k ≤ get_or l.initial.counts i 0 - least_at l.plant i + 1) → l.initial.tries + k * l.done ≤ l.tries;
  tries : l.tries ≤ l.initial.tries + 14 * l.done;
}
