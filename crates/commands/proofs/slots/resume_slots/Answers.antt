use Rattle.std.proofs.Common.{sym, ap, subst}
use Rattle.std.specs.Prelude.{Err}
use Rattle.line_base.specs.declared.event.Parts.{Parts}
use Rattle.line_runs.specs.declared.error.ResumeError.{ResumeError}
use Rattle.commands.specs.Saving.{NamesStationOf, IsResumeRefusal}
use Rattle.commands.proofs.Resumings.{slots_least, slots_name, slots_report, slots_refused}
use Rattle.commands.proofs.slots.resume_slots.Goals as goal

pub report_of-requires-clause-table : goal.report_of-requires-clause-table
report_of-requires-clause-table g c =
    let of = c.in-Ok.ensures.resumes in
    slots_least c.args.line.live.graph of.saved c.in-Ok.table of.answers

pub resume_refusal-refusal-requires : goal.resume_refusal-refusal-requires
resume_refusal-refusal-requires g c =
    let of = c.in-Err.ensures.resumes in
    subst (λ (h : Parts). NamesStationOf h c.in-Err.error) (sym c.graph.ensures.graph)
    (slots_name c.args.line.live.graph of.saved c.in-Err.error of.answers)

pub returns-in-Ok : goal.returns-in-Ok
returns-in-Ok g c =
    slots_report g.D.Disk.tells (g.D.Disk.shown c.args.disk.now) (g.D.Disk.shown c.resume_slots.new.disk)
    c.args.line.plant
    (record { stays = c.resume_slots.ensures.stays; faults = c.resume_slots.ensures.faults_stay_or_rise })
    c.args.line.live.graph c.requires.plant.graph c.in-Ok.table c.report_of.result c.in-Ok.ensures.resumes c.report_of.ensures

pub returns-in-Err : goal.returns-in-Err
returns-in-Err g c =
    let refusal = c.resume_refusal-refusal.result in
    slots_refused g.D.Disk.tells (g.D.Disk.shown c.args.disk.now) (g.D.Disk.shown c.resume_slots.new.disk)
    c.args.line.plant
    (record { stays = c.resume_slots.ensures.stays; faults = c.resume_slots.ensures.faults_stay_or_rise })
    c.args.line.live.graph c.requires.plant.graph c.in-Err.error refusal c.in-Err.ensures.resumes
    (λ is. c.in-Err.ensures.disk_fault (ap (λ (error : ResumeError). Err error) is))
    (subst (λ (h : Parts). IsResumeRefusal h c.in-Err.error refusal) c.graph.ensures.graph
    c.resume_refusal-refusal.ensures)
