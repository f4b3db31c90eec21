use Rattle.std.proofs.Common.{◌+◌, ◌/◌, ◌%◌, ◌<◌, ◌≤◌, subst, sym, arith}
use Rattle.line_base.specs.declared.event.Parts.{Parts}
use Rattle.event_graph.specs.Network.{stations, jobs}
use Rattle.event_graph.specs.Table.{date_in}
use Rattle.outside_io.specs.Outgoing.{last_two_numbers}
use Rattle.outside_io.proofs.OutgoingLemmas.{pushed_after}
use Rattle.line_report.specs.ReportText.{date_line}
use Rattle.line_report.proofs.Portions.{station_there, job_there}
use Rattle.line_report.specs.Portions.{numbered_line}
use Rattle.line_report.proofs.dates.write_line.Goals as goal

pub label-requires : goal.label-requires
label-requires g c =
    station_there c.args.graph.now c.args.i _ c.jobs-jobs.ensures.count c.jobs-jobs.ensures.limits.some_job c.requires.within

pub date-requires-clause-station : goal.date-requires-clause-station
date-requires-clause-station g c =
    subst (λ (h : Parts). c.args.i / c.jobs-jobs.result < stations h) (sym c.requires.of_graph)
    (station_there c.args.graph.now c.args.i _ c.jobs-jobs.ensures.count c.jobs-jobs.ensures.limits.some_job c.requires.within)

pub date-requires-clause-from_one : goal.date-requires-clause-from_one
date-requires-clause-from_one g c = omega arith

pub date-requires-clause-job : goal.date-requires-clause-job
date-requires-clause-job g c =
    subst (λ (h : Parts). c.args.i % c.jobs-jobs.result + 1 ≤ jobs h) (sym c.requires.of_graph)
    (job_there c.args.graph.now c.args.i _ c.jobs-jobs.ensures.count c.jobs-jobs.ensures.limits.some_job)

pub returns : goal.returns
unfolding numbered_line date_line
returns g c =
    let graph = c.args.graph.now in
    let job = c.args.i % jobs graph + 1 in
    let label = rw (c.label.ensures.text, c.jobs-jobs.ensures.count) at c.push.ensures in
    let numbers = rw (c.date.ensures.date, c.jobs-jobs.ensures.count) at c.push_last_two_numbers.ensures in
    pushed_after {ys = last_two_numbers job (date_in c.args.table.now.rows (c.args.i / jobs graph) job)} label numbers
