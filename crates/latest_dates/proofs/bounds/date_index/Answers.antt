use Rattle.std.proofs.Common.{◌+◌, ◌-◌, ◌*◌, ap, arith}
use Rattle.latest_dates.specs.Found.{date_index}
use Rattle.latest_dates.proofs.DateIndices.{date_index-below}
use Rattle.latest_dates.proofs.bounds.date_index.Goals as goal

pub returns-clause-date_index : goal.returns-clause-date_index
unfolding date_index
returns-clause-date_index c =
    ap (λ k. c.args.t * k + (c.args.n - 1)) c.jobs.ensures.count

pub returns-clause-below : goal.returns-clause-below
unfolding date_index
returns-clause-below c =
    omega (arith, ap (λ k. c.args.t * k + (c.args.n - 1)) c.jobs.ensures.count, date_index-below c.args.graph.now c.args.t c.args.n c.requires)
