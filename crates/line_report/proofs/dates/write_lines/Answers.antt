use Rattle.std.proofs.Common.{◌-◌, ◌+◌, arith}
use Rattle.event_graph.specs.Table.{date_in}
use Rattle.line_report.proofs.Portions.{pushed-no_lines, pushed-one_line}
use Rattle.line_report.proofs.dates.write_lines.Goals as goal

pub loop-i-init : goal.loop-i-init
loop-i-init g c = pushed-no_lines c.args.graph.now (date_in c.args.table.now.rows) c.args.from (c.args.from - c.args.from) (omega arith)

pub loop-i-preserved : goal.loop-i-preserved
loop-i-preserved g c =
    pushed-one_line c.args.graph.now (date_in c.args.table.now.rows) c.args.from c.loop-i.i (c.loop-i.i - c.args.from) (c.loop-i.i + 1 - c.args.from)
    (omega (arith, c.loop-i.auto.i)) (omega (arith, c.loop-i.auto.i)) c.loop-i.invariant c.write_line.ensures
