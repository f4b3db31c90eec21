use Rattle.std.proofs.Common.{◌≡◌, ◌-◌, ◌*◌, refl, ◌∙◌, arith}
use Rattle.event_graph.specs.Network.{stations, jobs}
use Rattle.event_graph.specs.Table.{date_in}
use Rattle.line_report.proofs.Portions.{pushed-no_lines, pushed-more_lines, all-numbered}
use Rattle.line_report.proofs.dates.write_dates.Goals as goal

pub loop-next-init : goal.loop-next-init
loop-next-init g c = record {
  within = omega arith;
  number = refl;
  lines = pushed-no_lines c.args.graph.now (date_in c.args.table.now.rows) 0 0 refl;
}

pub fill_portions-requires-clause-some : goal.fill_portions-requires-clause-some
fill_portions-requires-clause-some g c = omega (arith, c.requires.some, c.loop-next.invariant.number)

pub loop-next-preserved : goal.loop-next-preserved
loop-next-preserved g c =
    let next = c.loop-next.next in
    let end = c.share_end-end in
    record {
      within = omega (arith, end.ensures);
      number = c.fill_portions.ensures.number ∙ c.loop-next.invariant.number;
      lines =
          pushed-more_lines c.args.graph.now (date_in c.args.table.now.rows) 0 next next (end.result - next) end.result
          (omega arith) (omega (arith, end.ensures, c.loop-next.invariant.within)) c.loop-next.invariant.lines c.write_portions.ensures;
    }

pub returns-clause-lines : goal.returns-clause-lines
returns-clause-lines g c =
    let graph = c.args.graph.now in
    let before = c.loop-next.invariant in
    let lines : c.stations.result * c.jobs.result ≡ stations graph * jobs graph = rw (c.stations.ensures.count, c.jobs.ensures.count) refl in
    let all : c.loop-next.next ≡ stations graph * jobs graph = omega (arith, lines, before.within, c.loop-next-test.false) in
    rw (← all-numbered graph (date_in c.args.table.now.rows), ← all) before.lines
