use Rattle.std.proofs.Common.{◌-◌, arith}
use Rattle.event_graph.specs.Table.{date_in}
use Rattle.line_report.proofs.Portions.{pushed-no_lines, pushed-more_lines, first_share, next_share, share_read}
use Rattle.line_report.proofs.dates.write_portions.Goals as goal

pub loop-portion-init : goal.loop-portion-init
loop-portion-init g c = record {
  at = first_share c.args.from c.args.to c.args.each c.requires.ordered;
  begun = omega arith;
  within = c.requires.ordered;
  lines = pushed-no_lines c.args.graph.now (date_in c.args.table.now.rows) c.args.from (c.args.from - c.args.from) (omega arith);
}

pub write_portion-requires-clause-lines : goal.write_portion-requires-clause-lines
write_portion-requires-clause-lines g c =
    let loop = c.loop-portion in
    let is = c.share_end-end.ensures in
    share_read c.args.graph.now (date_in c.args.table.now.rows) c.args.from c.args.to c.args.each c.args.portions.now loop.portion-index loop.next c.share_end-end.result c.portion-item.result c.requires.shares c.loop-portion-test.true c.portion-item.is loop.invariant.at is

pub loop-portion-preserved : goal.loop-portion-preserved
loop-portion-preserved g c =
    let loop = c.loop-portion in
    let end = c.share_end-end in
    record {
      at = next_share c.args.from c.args.to c.args.each loop.portion-index loop.next end.result loop.invariant.at end.ensures;
      begun = omega (arith, end.ensures, loop.invariant.begun, loop.invariant.within);
      within = omega (arith, end.ensures);
      lines =
          pushed-more_lines c.args.graph.now (date_in c.args.table.now.rows) c.args.from loop.next (loop.next - c.args.from) (end.result - loop.next) (end.result - c.args.from)
          (omega (arith, loop.invariant.begun)) (omega (arith, end.ensures, loop.invariant.begun, loop.invariant.within)) loop.invariant.lines c.write_portion.ensures;
    }

pub returns : goal.returns
returns g c =
    let before = c.loop-portion.invariant in
    let next = c.loop-portion.next in
    pushed-more_lines c.args.graph.now (date_in c.args.table.now.rows) c.args.from next (next - c.args.from) (c.args.to - next) (c.args.to - c.args.from)
    (omega (arith, before.begun)) (omega (arith, before.begun, before.within)) before.lines c.write_lines.ensures
