use Rattle.std.proofs.Common.{◌≡◌}
use Rattle.line_runs.proofs.Firings.{left_of}
use Rattle.line_runs.proofs.FirstBursts.{HaveLed}
use Rattle.line_runs.proofs.stop.run_until.Given as goal

abbrev pub invariant-loop-line : goal.invariant-loop-line
invariant-loop-line g l = record {
  made_for : l.live ≡ l.line.live;
  led : HaveLed l.firings l.initial.line l.line;
}

abbrev pub decreases-loop-line : goal.decreases-loop-line
decreases-loop-line g l = left_of l.line
