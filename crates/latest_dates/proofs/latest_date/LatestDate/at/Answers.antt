use Rattle.std.proofs.Common.{arith}
use Rattle.latest_dates.specs.Words.{date_of-some}
use Rattle.latest_dates.proofs.latest_date.LatestDate.at.Goals as goal

pub returns : goal.returns
returns c = date_of-some c.args.date (λ e. omega (arith, e, c.requires))
