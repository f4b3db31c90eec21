use Rattle.outside_io.proofs.OutgoingLemmas.{◌⨟◌}
use Rattle.line_report.specs.SummaryText.{size_lines}
use Rattle.line_report.proofs.summary.write_sizes.Goals as goal

pub returns : goal.returns
unfolding size_lines
returns g c =
    let stations = rw c.stations-stations.ensures.count at c.write_number_line.ensures in
    let jobs = rw c.jobs-jobs.ensures.count at c.write_number_line-2.ensures in
    let firings = rw (c.stations-stations.ensures.count, c.jobs-jobs.ensures.count) at c.write_number_line-3.ensures in
    stations ⨟ jobs ⨟ firings
