use Rattle.std.proofs.Common.{ℕ, ◌+◌, ◌-◌, List, ap, ◌∙◌, arith, length}
use Rattle.std.specs.List.{sum_by}
use Rattle.event_graph.specs.Table.{date_in}
use Rattle.line_summary.proofs.TableSums.{row-short, arrived-row, sum-small}
use Rattle.line_summary.proofs.date_sums.arrived_sum.Goals as goal

pub time_left-requires : goal.time_left-requires
time_left-requires c =
    omega (arith, ap length c.dates.ensures.dates, row-short c.args.table.now c.args.t c.dates.ensures.least c.requires)

pub returns : goal.returns
returns c =
    let row = ap (λ (dates : List ℕ). sum_by (λ date. c.args.end - c.args.travel - date) dates) c.dates.ensures.dates in
    let sum = c.time_left.ensures ∙ row ∙ arrived-row c.args.table.now c.args.t c.dates.ensures.least c.requires c.args.end c.args.travel in
    let date = λ (n : ℕ). date_in c.args.table.now.rows c.args.t n + c.args.travel in
    let small = sum-small c.args.table.now c.args.t c.dates.ensures.least c.requires c.args.end date c.ranges.end.fits in
    record { sum = sum; small = omega arith; least = c.dates.ensures.least }
