use Rattle.outside_io.proofs.OutgoingLemmas.{◌⨟◌}
use Rattle.line_summary.specs.CurveText.{figures_row}
use Rattle.line_summary.proofs.rows.push_figures.Goals as goal

pub returns : goal.returns
unfolding figures_row
returns g c =
    let throughput = rw (c.from-jobs.ensures, c.from-last.ensures) at c.write_ratio.ensures in
    let wait = rw c.from-jobs.ensures at c.write_ratio-2.ensures in
    let parts = rw c.from-last.ensures at c.write_ratio-3.ensures in
    c.write_number_behind.ensures ⨟ c.write_number_behind-2.ensures ⨟ throughput ⨟ wait
    ⨟ c.write_number_behind-3.ensures ⨟ parts ⨟ c.push.ensures
