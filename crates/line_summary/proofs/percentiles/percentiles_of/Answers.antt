use Rattle.std.proofs.Common.{◌∙◌, arith}
use Rattle.event_graph.specs.Table.{date_in}
use Rattle.line_summary.proofs.WaitLists.{percentile-sorted, zeros-sorted}
use Rattle.line_summary.proofs.percentiles.percentiles_of.Goals as goal

pub overflow_cast-result : goal.overflow_cast-result
overflow_cast-result c = omega (arith, c.count_zeros.ensures.few, c.requires.few)

pub returns : goal.returns
returns c =
    let g = c.args.table.now.graph in
    let x = date_in c.args.table.now.rows in
    let sorted = c.args.sorted.now in
    record {
      p50 = percentile-sorted g x sorted 50 c.percentile.result c.requires.sorted (omega arith) c.percentile.ensures.enough c.percentile.ensures.least;
      p90 = percentile-sorted g x sorted 90 c.percentile-2.result c.requires.sorted (omega arith) c.percentile-2.ensures.enough c.percentile-2.ensures.least;
      p95 = percentile-sorted g x sorted 95 c.percentile-3.result c.requires.sorted (omega arith) c.percentile-3.ensures.enough c.percentile-3.ensures.least;
      p99 = percentile-sorted g x sorted 99 c.percentile-4.result c.requires.sorted (omega arith) c.percentile-4.ensures.enough c.percentile-4.ensures.least;
      at_once = c.count_zeros.ensures.count ∙ zeros-sorted g x sorted c.requires.sorted;
    }
