use Rattle.line_summary.proofs.Backlogs.{IsMostSoFar}
use Rattle.line_summary.proofs.waits.most_backlog.Given as goal

abbrev pub invariant-loop-date : goal.invariant-loop-date
invariant-loop-date l = IsMostSoFar l.plant l.table l.date-index l.most
