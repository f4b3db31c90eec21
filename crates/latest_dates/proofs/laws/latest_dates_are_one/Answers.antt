use Rattle.latest_dates.proofs.OneTable.{same}
use Rattle.latest_dates.proofs.Ordered.{ordered, upward}
use Rattle.latest_dates.proofs.laws.latest_dates_are_one.Goals as goal

pub returns : goal.returns
returns c = λ g graph live may y z latest other t n date.
    same (ordered g graph live) (upward g graph live) graph may y z latest other t n date
