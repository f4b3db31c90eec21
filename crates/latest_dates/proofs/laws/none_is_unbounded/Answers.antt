use Rattle.latest_dates.proofs.Ordered.{ordered, upward}
use Rattle.latest_dates.proofs.Unbounded.{none_unbounded}
use Rattle.latest_dates.proofs.laws.none_is_unbounded.Goals as goal

pub returns : goal.returns
returns c = λ g some graph live may x solves served y latest t n date none late.
    none_unbounded (ordered g graph live) (upward g graph live) graph may y latest x solves served some t n none late
