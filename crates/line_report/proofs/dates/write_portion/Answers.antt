use Rattle.event_graph.specs.Table.{date_in}
use Rattle.line_report.proofs.Portions.{pushed-portion}
use Rattle.line_report.proofs.dates.write_portion.Goals as goal

pub returns : goal.returns
returns g c =
    pushed-portion c.args.graph.now (date_in c.args.table.now.rows) c.args.from c.args.to c.args.portion.now c.requires.lines (rw c.text.ensures at c.push.ensures) (rw c.end.ensures at c.write_lines.ensures)
