use Rattle.std.proofs.Common.{subst, sym, ◌∙◌, ap}
use Rattle.std.specs.List.Sorted.{IsNonDecreasing}
use Rattle.line_stats.specs.Between.{dates_until}
use Rattle.line_stats.proofs.RisingDates.{row-rises, count-row}
use Rattle.line_stats.proofs.logs.jobs_done.Goals as goal

pub dates_until-requires : goal.dates_until-requires
dates_until-requires c =
    let d = c.args.table.now in
    subst IsNonDecreasing (sym c.dates.ensures.dates) (row-rises d c.args.t c.dates.ensures.least c.requires.order c.requires.station)

pub returns-clause-count : goal.returns-clause-count
returns-clause-count c =
    let d = c.args.table.now in
    c.dates_until.ensures.count
    ∙ ap (λ row. dates_until row c.args.at) c.dates.ensures.dates
    ∙ count-row d c.args.t c.args.at c.dates.ensures.least c.requires.station
