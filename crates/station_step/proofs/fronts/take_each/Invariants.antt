use Rattle.std.proofs.Common.{◌≡◌, ◌≢◌, ℕ, ◌<◌, ◌≤◌, []}
use Rattle.std.specs.List.{range_with_len}
use Rattle.event_graph.specs.GreatestValue.{greatest}
use Rattle.station_step.specs.Counts.{tally_at, seen_queues, one_taken}
use Rattle.station_step.specs.Fronts.{front_at, front_asks, waiting_at}
use Rattle.station_step.proofs.TakenFronts.{ChangedUpTo}
use Rattle.station_step.proofs.fronts.take_each.Given as goal

abbrev pub invariant-loop-k : goal.invariant-loop-k
invariant-loop-k l =
    let queues = seen_queues l.firsts l.room.value l.logs l.initial.tallies in
    record {
      counted : ChangedUpTo one_taken l.k l.fronts l.initial.tallies l.tallies;
      dates : (j : ℕ) → j < l.k → (tally_at l.initial.tallies (front_at l.fronts j).queue).initial ≤ (tally_at l.initial.tallies (front_at l.fronts j).queue).taken;
      there : (j : ℕ) → j < l.k → waiting_at queues l.fronts j ≢ [];
      date : l.latest ≡ greatest (front_asks queues l.fronts) (range_with_len 0 l.k);
    }
