use Rattle.std.proofs.Common.{◌≡◌, ◌≤◌, ◌+◌, length}
use Rattle.line_core.specs.Schedule.{lines_of, follow_lines}
use Rattle.line_core.proofs.schedule.follow_lines.Given as goal

abbrev pub invariant-loop-rest : goal.invariant-loop-rest
invariant-loop-rest l = record {
  graph : l.state.graph ≡ l.initial.state.graph;
  followed : follow_lines l.initial.state.graph (lines_of l.schedule) 1 l.initial.state.state ≡ follow_lines l.initial.state.graph (lines_of l.rest) l.line l.state.state;
  counted : l.line + length l.rest ≤ 1 + length l.schedule;
}

abbrev pub decreases-loop-rest : goal.decreases-loop-rest
decreases-loop-rest l = length l.rest
