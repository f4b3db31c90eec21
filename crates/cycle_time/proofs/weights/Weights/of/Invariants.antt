use Rattle.std.proofs.Common.{◌≡◌, ℕ, ◌<◌, ◌≤◌, length, get_or, vec_capacity}
use Rattle.cycle_time.specs.Search.{gain, loss}
use Rattle.cycle_time.proofs.weights.Weights.of.Given as goal

abbrev pub invariant-loop-a : goal.invariant-loop-a
invariant-loop-a l = record {
  gain_for_each : length l.gains.items ≡ l.a;
  loss_for_each : length l.losses.items ≡ l.a;
  gains : (k : ℕ) → k < l.a → get_or l.gains.items k 0 ≡ gain l.graph l.weighing k;
  losses : (k : ℕ) → k < l.a → get_or l.losses.items k 0 ≡ loss l.graph l.weighing k;
  gains_room : l.arcs ≤ vec_capacity l.gains;
  losses_room : l.arcs ≤ vec_capacity l.losses;
}
