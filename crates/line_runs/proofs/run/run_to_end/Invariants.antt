use Rattle.std.proofs.Common.{◌≡◌}
use Rattle.line_runs.specs.AllFirings.{all_firings}
use Rattle.line_runs.proofs.Firings.{left_of}
use Rattle.line_runs.proofs.FirstBursts.{HaveLed}
use Rattle.line_runs.proofs.run.run_to_end.Given as goal

abbrev pub invariant-loop-line : goal.invariant-loop-line
invariant-loop-line g l = record {
  made_for : l.live ≡ l.line.live;
  led : HaveLed (all_firings l.live.graph) l.initial.line l.line;
}

abbrev pub decreases-loop-line : goal.decreases-loop-line
decreases-loop-line g l = left_of l.line
