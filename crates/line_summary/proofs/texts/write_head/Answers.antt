use Rattle.outside_io.proofs.OutgoingLemmas.{◌⨟◌}
use Rattle.line_summary.specs.SummaryText.{head_lines}
use Rattle.line_summary.proofs.Read.{figures-read, backlog-read}
use Rattle.line_summary.proofs.texts.write_head.Goals as goal

pub returns : goal.returns
unfolding head_lines
returns g c =
    let r = c.args.line.now in
    let read = figures-read r c.requires in
    let shares = c.requires.percentiles in
    let first = rw (read.jobs, read.last) at c.write_jobs.ensures in
    let waits = rw (read.waited, read.jobs, read.most, read.worst) at c.write_waits.ensures in
    let percentiles = rw (shares.p50, shares.p90, shares.p95, shares.p99) at c.write_percentiles.ensures in
    let once = rw (shares.at_once, read.jobs) at c.write_at_once.ensures in
    let backlog = rw (backlog-read r c.requires c.most_backlog-most.ensures.least, read.last, c.most_backlog-most.ensures.most) at c.write_backlog.ensures in
    let parts = rw (read.parts, read.last) at c.write_parts.ensures in
    first ⨟ waits ⨟ percentiles ⨟ once ⨟ backlog ⨟ parts
