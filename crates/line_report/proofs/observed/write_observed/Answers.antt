use Rattle.std.proofs.lemmas.List.{take_all}
use Rattle.event_graph.specs.Table.{date_in}
use Rattle.outside_io.proofs.OutgoingLemmas.{pushed_none, pushed_element}
use Rattle.line_report.specs.ReportText.{observed_lines}
use Rattle.line_report.proofs.observed.write_observed.Goals as goal

pub loop-at-init : goal.loop-at-init
loop-at-init g c = pushed_none _

pub loop-at-preserved : goal.loop-at-preserved
loop-at-preserved g c =
    let below = rw c.as_slice-at-items.ensures at c.loop-at-test.true in
    let lines = rw c.as_slice-at-items.ensures at c.write_date_observed.ensures in
    pushed_element (observed_lines c.args.run.now.plant (date_in c.args.run.now.table.rows)) c.args.run.now.plant.observe c.loop-at.at-index 0 below c.loop-at.invariant lines

pub write_date_observed-requires : goal.write_date_observed-requires
write_date_observed-requires g c = c.requires

pub returns : goal.returns
returns g c =
    let over = rw c.as_slice-at-items.ensures at c.loop-at-test.false in
    rw (take_all c.loop-at.at-index c.args.run.now.plant.observe over) at c.loop-at.invariant
