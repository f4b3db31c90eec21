use Rattle.std.proofs.Common.{◌≡◌, ◌≤◌, ◌*◌, ◌^◌}
use Rattle.std.specs.List.{sum_by, range_with_len}
use Rattle.event_graph.specs.Table.{date_in}
use Rattle.line_summary.specs.OverTime.{stage_sum}
use Rattle.line_summary.proofs.stages.parts_sum.Given as goal

abbrev pub invariant-loop-stage : goal.invariant-loop-stage
invariant-loop-stage l = record {
  sum : l.parts ≡ sum_by (stage_sum l.plant (date_in l.table.rows)) (range_with_len 0 l.stage);
  small : l.parts ≤ l.stage * 2 ^ 82;
}
