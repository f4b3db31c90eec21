use Rattle.std.proofs.Common.{◌≡◌, ◌+◌, ◌-◌, ◌≤◌, false}
use Rattle.outside_io.specs.Outgoing.{nothing_waiting}
use Rattle.line_summary.specs.Curve.{PutsRows}
use Rattle.line_summary.proofs.curve.write_curve.Given as goal

-- the rows of the counts before are put, each to its end
abbrev pub invariant-loop-next : goal.invariant-loop-next
invariant-loop-next g l = record {
  rows : PutsRows l.plant l.from (l.next - l.from) (g.K.Sink.shown l.initial.sink) (g.K.Sink.shown l.sink);
  as_new : l.out ≡ nothing_waiting false;
  begun : l.from ≤ l.next;
  within : l.next ≤ l.to + 1;
}

abbrev pub decreases-loop-next : goal.decreases-loop-next
decreases-loop-next g l = l.to + 1 - l.next
