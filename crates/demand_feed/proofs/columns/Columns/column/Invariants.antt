use Rattle.std.proofs.Common.{◌≡◌, take}
use Rattle.demand_feed.specs.JobTimes.{numbers_in}
use Rattle.demand_feed.proofs.columns.Columns.column.Given as goal

abbrev pub invariant-loop-job : goal.invariant-loop-job
invariant-loop-job l = l.times.items ≡ take l.job (numbers_in l.fn.self l.column)
