use Rattle.outside_io.proofs.OutgoingLemmas.{◌⨟◌}
use Rattle.line_summary.specs.SummaryText.{percentile_line}
use Rattle.line_summary.proofs.texts.write_percentiles.Goals as goal

pub returns : goal.returns
unfolding percentile_line
returns g c =
    c.write_number_behind.ensures ⨟ c.write_number_behind-2.ensures ⨟ c.write_number_behind-3.ensures
    ⨟ c.write_number_behind-4.ensures ⨟ c.push.ensures
