use Rattle.std.proofs.Common.{arith}
use Rattle.latest_dates.proofs.WordLemmas.{earlier-first, earlier-second}
use Rattle.latest_dates.proofs.latest_date.LatestDate.earlier.Goals as goal

pub returns-then-other-self : goal.returns-then-other-self
returns-then-other-self c =
    rw (← c.self.view_is, ← c.other.view_is)
    (earlier-second c.self.inside.word c.other.inside.word c.self.invariant c.if-other-self.true)

pub returns-else-other-self : goal.returns-else-other-self
returns-else-other-self c =
    rw (← c.self.view_is, ← c.other.view_is)
    (earlier-first c.self.inside.word c.other.inside.word c.other.invariant (omega (arith, c.if-other-self.false)))
