use Rattle.std.proofs.Common.{◌≡◌, false}
use Rattle.outside_io.specs.Outgoing.{nothing_waiting}
use Rattle.line_summary.specs.Curve.{PutsRows}
use Rattle.line_summary.proofs.curve.write_block.Given as goal

-- the rows before are put, each to its end
abbrev pub invariant-loop-i : goal.invariant-loop-i
invariant-loop-i g l = record {
  rows : PutsRows l.plant l.first l.i (g.K.Sink.shown l.initial.sink) (g.K.Sink.shown l.sink);
  as_new : l.out ≡ nothing_waiting false;
}
