use Rattle.std.proofs.Common.{arith}
use Rattle.line_chart.proofs.Windows.{last-early}
use Rattle.line_chart.proofs.chart.window_of.Goals as goal

pub returns-in-None-clause-is_one : goal.returns-in-None-clause-is_one
returns-in-None-clause-is_one c =
    record {
      forward = omega (arith, c.max.ensures);
      early = omega (arith, c.max.ensures, c.last.ensures, last-early c.args.table.now c.stations-stations.ensures.least);
    }
