use Rattle.std.proofs.Common.{◌≡◌, drop}
use Rattle.latest_dates.specs.Found.{latest_in}
use Rattle.latest_dates.specs.Latest.{earlier, earliest, bound}
use Rattle.latest_dates.proofs.bounds.earliest_bound.Given as goal

-- the bounds that are left make of the earliest so far the earliest of all
abbrev pub invariant-loop-a : goal.invariant-loop-a
invariant-loop-a l =
    earlier l.earliest (earliest (bound l.live.graph (latest_in l.live l.dates) l.n) (drop l.a-index l.outs))
    ≡ earlier l.initial.earliest (earliest (bound l.live.graph (latest_in l.live l.dates) l.n) l.outs)
