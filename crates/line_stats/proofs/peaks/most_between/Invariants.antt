use Rattle.line_stats.proofs.DateWalks.{WalksDates}
use Rattle.line_stats.proofs.peaks.most_between.Given as goal

abbrev pub invariant-loop-before : goal.invariant-loop-before
invariant-loop-before l = WalksDates l.entered l.left l.start l.most l.gone l.before
