use Rattle.std.proofs.Common.{◌∙◌}
use Rattle.outside_io.proofs.OutgoingLemmas.{◌⨟◌}
use Rattle.line_report.specs.SummaryText.{summary}
use Rattle.line_report.proofs.texts.write_summary_text.Goals as goal

pub returns : goal.returns
unfolding summary
returns g c =
    let sizes = rw (c.graph.ensures.graph ∙ c.requires.of_plant.live_graph) at c.write_sizes.ensures in
    let sum = rw c.requires.of_plant.table_graph at c.write_sum.ensures in
    sizes ⨟ sum ⨟ c.write_end.ensures
