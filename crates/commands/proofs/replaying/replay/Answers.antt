use Rattle.std.proofs.Common.{ap, ◌∙◌}
use Rattle.commands.proofs.LeastTables.{is_least_table}
use Rattle.commands.proofs.ScheduleAnswers.{end_reported, end_refused}
use Rattle.line_core.specs.Run.{Dates}
use Rattle.live_plant.proofs.ScheduleErrors.{names_existing}
use Rattle.commands.proofs.replaying.replay.Goals as goal

pub report_of-requires-clause-table : goal.report_of-requires-clause-table
report_of-requires-clause-table c =
    let same = ap (λ (d : Dates). d.graph) c.into_table-table.ensures.dates ∙ c.in-Ok.ensures.made_for in
    is_least_table c.args.line.live.graph c.into_table-table.result same c.into_table-table.ensures.least

pub schedule_refusal-refusal-requires : goal.schedule_refusal-refusal-requires
schedule_refusal-refusal-requires c =
    rw c.graph.ensures.graph
    (names_existing c.args.line.live.graph c.args.schedule.now c.in-Err.error c.in-Err.ensures.refused)

pub returns-in-Ok : goal.returns-in-Ok
returns-in-Ok c =
    end_reported c.args.line.plant c.args.schedule.now c.in-Ok.end.state c.report_of.result
    (rw c.requires.graph at c.in-Ok.ensures.followed) c.report_of.ensures

pub returns-in-Err : goal.returns-in-Err
returns-in-Err c =
    end_refused c.args.line.plant c.args.schedule.now c.in-Err.error c.schedule_refusal-refusal.result
    (rw c.requires.graph at c.in-Err.ensures.refused)
    (rw (c.graph.ensures.graph, c.requires.graph) at c.schedule_refusal-refusal.ensures)
