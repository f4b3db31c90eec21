use Rattle.outside_io.proofs.OutgoingLemmas.{◌⨟◌}
use Rattle.line_summary.specs.SummaryText.{backlog_line}
use Rattle.line_summary.proofs.texts.write_backlog.Goals as goal

pub returns : goal.returns
unfolding backlog_line
returns g c =
    let ratio = rw c.from.ensures at c.write_ratio.ensures in
    ratio ⨟ c.write_number_behind.ensures ⨟ c.push.ensures
