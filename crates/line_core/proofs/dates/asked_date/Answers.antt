use Rattle.std.proofs.Common.{arith}
use Rattle.line_core.proofs.dates.asked_date.Goals as goal

pub returns : goal.returns
returns c = omega (arith, c.work.ensures.work, c.token.ensures.date)
