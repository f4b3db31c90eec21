use Rattle.std.proofs.Common.{length, sym}
use Rattle.line_base.specs.declared.limits.TheConstants.{MAX_TIME}
use Rattle.demand_feed.proofs.JobTimesLemmas.{length-cut_rows, limit-cut_rows}
use Rattle.demand_feed.proofs.columns.Columns.records.Goals as goal

pub returns-clause-count : goal.returns-clause-count
returns-clause-count c = rw (← c.self.view_is) (sym (length-cut_rows (length c.self.inside.columns.items) c.self.inside.jobs c.self.inside.times.items))

pub returns-clause-limit : goal.returns-clause-limit
returns-clause-limit c =
    rw (← c.self.view_is) (limit-cut_rows MAX_TIME (length c.self.inside.columns.items) c.self.inside.jobs c.self.inside.times.items c.self.invariant.limit)
