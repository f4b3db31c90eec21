use Rattle.outside_io.proofs.OutgoingLemmas.{◌⨟◌}
use Rattle.line_summary.specs.SummaryText.{at_once_line}
use Rattle.line_summary.proofs.texts.write_at_once.Goals as goal

pub returns : goal.returns
unfolding at_once_line
returns g c =
    c.write_number_behind.ensures ⨟ c.write_number_behind-2.ensures ⨟ c.push.ensures
