use Rattle.outside_io.proofs.OutgoingLemmas.{◌⨟◌}
use Rattle.line_report.proofs.totals.write_end.Goals as goal

pub returns : goal.returns
returns g c =
    let totals = rw c.requires.of_plant.table_graph at c.write_totals.ensures in
    c.write_peaks.ensures ⨟ totals
