use Rattle.outside_io.proofs.OutgoingLemmas.{◌⨟◌}
use Rattle.line_summary.specs.SummaryText.{parts_line}
use Rattle.line_summary.proofs.texts.write_parts.Goals as goal

pub returns : goal.returns
unfolding parts_line
returns g c =
    let ratio = rw c.from.ensures at c.write_ratio.ensures in
    ratio ⨟ c.push.ensures
