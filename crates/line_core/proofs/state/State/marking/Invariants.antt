use Rattle.std.proofs.Common.{◌≡◌, ◌≤◌, length, map, vec_capacity, vec_len}
use Rattle.std.specs.List.{range_with_len}
use Rattle.event_graph.specs.State.{place}
use Rattle.line_core.proofs.Runs.{state_in}
use Rattle.line_core.proofs.state.State.marking.Given as goal

abbrev pub invariant-loop-a : goal.invariant-loop-a
invariant-loop-a l = record {
  counted : l.lengths.items ≡ map (λ a. length (place (state_in l.graph l.self-inside.logs) a)) (range_with_len 0 l.a);
  count : vec_len l.lengths ≡ l.a;
  room : l.arcs ≤ vec_capacity l.lengths;
}
