use Rattle.std.proofs.Common.{◌≡◌, ◌+◌, ◌≤◌, length, vec_capacity}
use Rattle.line_setup.specs.Making.{AreNewLogs}
use Rattle.line_setup.proofs.making.new_logs.Given as goal

abbrev pub invariant-loop-t : goal.invariant-loop-t
invariant-loop-t l = record {
  count : l.first + length l.logs.items ≡ l.t;
  logs : AreNewLogs l.live.graph l.state.state l.first l.logs.items;
  room : l.next ≤ l.first + vec_capacity l.logs;
}
