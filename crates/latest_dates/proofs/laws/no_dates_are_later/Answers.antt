use Rattle.std.proofs.Common.{arith}
use Rattle.latest_dates.proofs.NoneLater.{none_later}
use Rattle.latest_dates.proofs.Ordered.{ordered, upward}
use Rattle.latest_dates.proofs.laws.no_dates_are_later.Goals as goal

pub returns : goal.returns
returns c = λ g graph live may y latest z solves served t n date.
    none_later (ordered g graph live) (upward g graph live) graph may y 0 (λ u m there from. latest.each u m there) z solves served t n date (omega arith)
