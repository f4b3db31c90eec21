use Rattle.std.proofs.Common.{arith}
use Rattle.line_stats.proofs.DateLists.{count-above, count-le}
use Rattle.line_stats.proofs.logs.dates_until_from.Goals as goal

pub loop-count-preserved : goal.loop-count-preserved
loop-count-preserved c =
    let more = count-above c.args.dates.now c.loop-count.count c.args.at c.requires.order c.loop-count-test.true c.if-dates-count.true in
    omega arith

pub returns-else-dates-count : goal.returns-else-dates-count
returns-else-dates-count c =
    let no_more = count-le c.args.dates.now c.loop-count.count c.args.at c.requires.order c.loop-count-test.true c.if-dates-count.false in
    record { count = omega arith }
