use Rattle.std.proofs.Common.{◌∙◌}
use Rattle.outside_io.proofs.OutgoingLemmas.{◌⨟◌}
use Rattle.line_report.specs.ReportText.{report}
use Rattle.line_report.proofs.texts.write_text.Goals as goal

pub returns-clause-text : goal.returns-clause-text
unfolding report
returns-clause-text g c =
    let of_plant = c.requires.run.of_plant in
    let dates = rw (c.graph.ensures.graph ∙ of_plant.live_graph) at c.write_dates.ensures.lines in
    dates ⨟ c.write_observed.ensures ⨟ c.write_end.ensures
