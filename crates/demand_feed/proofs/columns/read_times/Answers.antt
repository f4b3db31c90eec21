use Rattle.std.proofs.Common.{arith}
use Rattle.line_base.specs.declared.limits.TheConstants.{MAX_TIME}
use Rattle.demand_feed.specs.Records.{records_of}
use Rattle.demand_feed.proofs.GoodRows.{Accepted-held, length-records_of}
use Rattle.demand_feed.proofs.JobTimesLemmas.{IsFilled-held, times_of-held}
use Rattle.demand_feed.proofs.columns.read_times.Goals as goal

pub overflow_cast-result : goal.overflow_cast-result
overflow_cast-result c =
    let file = Accepted-held c.args.columns.now MAX_TIME (records_of c.args.bytes.now) _ _ c.in_ok-numbers.ensures.rows in
    omega (arith, file.few, length-records_of c.args.bytes.now, c.requires.size)

pub invariant_of-result : goal.invariant_of-result
invariant_of-result c = IsFilled-held c.args.columns.now _ c.args.bytes.now _ _ c.in_ok-kept.ensures.items c.requires.ascending c.in_ok-numbers.ensures.rows

pub returns-clause-times : goal.returns-clause-times
returns-clause-times c = times_of-held c.args.columns.now _ c.args.bytes.now _ _ c.in_ok-kept.ensures.items c.in_ok-numbers.ensures.rows
