use Rattle.std.proofs.Common.{◌-◌, refl, sym, arith}
use Rattle.event_graph.specs.Table.{date_in}
use Rattle.line_report.proofs.Portions.{numbered-none, numbered-added, station_there, job_there}
use Rattle.line_report.proofs.portion.write_lines.Goals as goal
use Rattle.line_report.proofs.portion.write_lines.Goals.{else-loop-next-test, then-loop-next-test+then-added-count}

pub loop-next-init : goal.loop-next-init
loop-next-init c = record {
  begun = omega arith;
  within = c.requires.ordered;
  room = omega arith;
  size = refl;
  lines = sym (numbered-none c.args.graph.now (date_in c.args.table.now.rows) c.args.from (c.args.from - c.args.from) (omega arith));
}

pub loop-next-preserved : goal.loop-next-preserved
loop-next-preserved c =
    let before = c.loop-next.invariant in
    let added = c.write_jobs-added in
    record {
      begun = omega (arith, before.begun);
      within = omega (arith, c.min-count.ensures, added.ensures.few, before.within);
      room = omega (arith, added.ensures.end, added.auto.room);
      size = omega (arith, added.auto.room, before.size);
      lines =
          numbered-added c.args.graph.now (date_in c.args.table.now.rows) c.args.from c.loop-next.next added.result.count c.jobs-jobs.result _ _
          c.jobs-jobs.ensures.count c.jobs-jobs.ensures.limits.some_job before.begun
          (omega (arith, c.min-count.ensures, added.ensures.few)) added.ensures.lines before.lines;
    }

pub write_jobs-added-requires-clause-station : goal.write_jobs-added-requires-clause-station
write_jobs-added-requires-clause-station c =
    station_there c.args.graph.now c.loop-next.next _ c.jobs-jobs.ensures.count c.jobs-jobs.ensures.limits.some_job (omega (arith, c.loop-next-test.true, c.requires.within))

pub write_jobs-added-requires-clause-jobs : goal.write_jobs-added-requires-clause-jobs
write_jobs-added-requires-clause-jobs c =
    let job = job_there c.args.graph.now c.loop-next.next _ c.jobs-jobs.ensures.count c.jobs-jobs.ensures.limits.some_job in
    omega (arith, job, c.jobs-jobs.ensures.count, c.min-count.ensures)

pub returns-clause-lines : goal.returns-clause-lines
returns-clause-lines c = elim c.loop-next-test.branch [
  | else-loop-next-test w ↦ rw (w.room-is, w.end-is, w.next-is) c.loop-next.invariant.lines
  | then-loop-next-test+then-added-count w ↦
      rw (w.room-is, w.end-is, w.next-is)
      (numbered-added c.args.graph.now (date_in c.args.table.now.rows) c.args.from c.loop-next.next w.write_jobs-added.result.count c.jobs-jobs.result _ _
      c.jobs-jobs.ensures.count c.jobs-jobs.ensures.limits.some_job c.loop-next.invariant.begun
      (omega (arith, w.min-count.ensures, w.write_jobs-added.ensures.few)) w.write_jobs-added.ensures.lines c.loop-next.invariant.lines)
]
