use Rattle.std.proofs.Common.{ℕ, ◌<◌}
use Rattle.std.specs.Prelude.{◌+ℤ◌, ◌≤ℤ◌}
use Rattle.event_graph.specs.Network.{arc}
use Rattle.cycle_time.specs.Weight.{weight, potential}
use Rattle.cycle_time.proofs.acceptance.are_potentials.Given as goal

abbrev pub invariant-loop-a : goal.invariant-loop-a
invariant-loop-a l =
    (k : ℕ) → k < l.a →
    (potential l.potentials (arc l.graph k).from +ℤ weight l.graph l.given.time l.given.cards k) ≤ℤ potential l.potentials (arc l.graph k).to
