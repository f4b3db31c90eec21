use Rattle.outside_io.proofs.OutgoingLemmas.{◌⨟◌}
use Rattle.line_report.proofs.words.write_number_line.Goals as goal

pub returns : goal.returns
returns g c =
    c.push.ensures ⨟ c.push-2.ensures ⨟ c.push_wide_number.ensures ⨟ c.push-3.ensures
