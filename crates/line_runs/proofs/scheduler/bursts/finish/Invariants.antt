use Rattle.line_runs.specs.Standing.{GoesOn}
use Rattle.line_runs.proofs.Firings.{left_of}
use Rattle.line_runs.proofs.scheduler.bursts.finish.Given as goal

abbrev pub invariant-loop-line : goal.invariant-loop-line
invariant-loop-line g l = GoesOn l.fn.line l.line

abbrev pub decreases-loop-line : goal.decreases-loop-line
decreases-loop-line g l = left_of l.line
