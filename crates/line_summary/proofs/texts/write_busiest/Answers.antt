use Rattle.outside_io.proofs.OutgoingLemmas.{◌⨟◌}
use Rattle.std.proofs.Common.{ap, ◌∙◌}
use Rattle.line_summary.specs.Machines.{busiest_of}
use Rattle.line_summary.specs.SummaryText.{busiest_line}
use Rattle.line_summary.proofs.texts.write_busiest.Goals as goal

pub returns : goal.returns
unfolding busiest_line
returns g c =
    let is = c.busiest.ensures ∙ ap busiest_of (c.as_slice.ensures.value ∙ c.requires.uses) in
    let label = rw is at c.write_label.ensures in
    c.push.ensures ⨟ label ⨟ c.push-2.ensures
