use Rattle.std.proofs.Common.{length, ap, arith}
use Rattle.std.proofs.lemmas.Grind.{common_steps}
use Rattle.line_base.specs.declared.limits.TheConstants.{MAX_DEMAND_DATE}
use Rattle.demand_feed.specs.Dates.{date_columns}
use Rattle.demand_feed.specs.Records.{records_of}
use Rattle.demand_feed.proofs.GoodRows.{Accepted-held, All-concat-rows, length-concat-rows}
use Rattle.demand_feed.proofs.dates.read_dates.Goals as goal

pub returns-clause-some : goal.returns-clause-some
returns-clause-some c =
    let file = Accepted-held (date_columns c.args.column) MAX_DEMAND_DATE (records_of c.args.bytes.now) _ _ c.in_ok-numbers.ensures.rows in
    let size = length-concat-rows 1 MAX_DEMAND_DATE file.rows file.good in
    let all = ap length file.joined in
    grind (arith, common_steps, size, all, file.counted)

pub returns-clause-limit : goal.returns-clause-limit
returns-clause-limit c =
    let file = Accepted-held (date_columns c.args.column) MAX_DEMAND_DATE (records_of c.args.bytes.now) _ _ c.in_ok-numbers.ensures.rows in
    rw file.joined (All-concat-rows 1 MAX_DEMAND_DATE file.rows file.good)
