use Rattle.outside_io.proofs.OutgoingLemmas.{◌⨟◌}
use Rattle.line_summary.specs.SummaryText.{job_lines}
use Rattle.line_summary.proofs.texts.write_jobs.Goals as goal

pub returns : goal.returns
unfolding job_lines
returns g c =
    let jobs = rw c.from.ensures at c.write_number_line.ensures in
    let last = rw c.from-2.ensures at c.write_number_line-2.ensures in
    let ratio = rw (c.from-3.ensures, c.from-4.ensures) at c.write_ratio.ensures in
    jobs ⨟ last ⨟ ratio ⨟ c.push.ensures
