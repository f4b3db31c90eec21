use Rattle.outside_io.proofs.OutgoingLemmas.{◌⨟◌}
use Rattle.line_summary.specs.SummaryText.{wait_line}
use Rattle.line_summary.proofs.texts.write_waits.Goals as goal

pub returns : goal.returns
unfolding wait_line
returns g c =
    let ratio = rw c.from-jobs.ensures at c.write_ratio.ensures in
    ratio ⨟ c.write_number_behind.ensures ⨟ c.write_number_behind-2.ensures ⨟ c.push.ensures
