use Rattle.std.proofs.Common.{◌∙◌, sym, ap, subst}
use Rattle.std.specs.Prelude.{Err}
use Rattle.event_graph.specs.State.{start}
use Rattle.line_base.specs.declared.event.Parts.{Parts}
use Rattle.line_base.specs.Limits.{most_checkpoint_bytes}
use Rattle.line_runs.specs.Saves.{HasTooLongState}
use Rattle.live_check.specs.Order.{LiveGraph}
use Rattle.commands.proofs.Checkpoints.{never_too_long}
use Rattle.commands.proofs.SlotRuns.{kept_of, run_fails, run_saves, late_of}
use Rattle.commands.specs.Saving.{SavesOnTheWay}
use Rattle.live_plant.specs.Actions.{disk_over}
use Rattle.crash_disk.specs.declared.slots.error.SlotError.{SlotError}
use Rattle.commands.proofs.slots.run_saving.Goals as goal

pub slot_refusal-requires-clause-fits : goal.slot_refusal-requires-clause-fits
slot_refusal-requires-clause-fits g c =
    let line = c.args.line in
    λ have is.
    never_too_long line c.requires.plant have
    (subst (λ (h : Parts). HasTooLongState h most_checkpoint_bytes have) c.requires.plant.graph
    (c.in-Err.ensures.too_long have (ap (λ (error : SlotError). Err error) is)))

pub returns-in-Ok : goal.returns-in-Ok
returns-in-Ok g c =
    let line = c.args.line in
    let same = c.requires.plant.graph in
    let new = g.D.Disk.shown c.run_with_slots.new.disk in
    let kept =
    kept_of line.plant line.live.graph same c.run_with_slots.ensures.any_moment
    c.run_with_slots.ensures.faults_stay_or_rise in
    let on : SavesOnTheWay line.plant c.args.every (disk_over g.D.Disk.tells (g.D.Disk.shown c.args.disk.now) new)
    = record {
      first = c.args.work;
      begun = c.requires.begun ∙ ap start same;
      made_for = ap (λ (v : LiveGraph). v.graph) (sym c.requires.made_for) ∙ same;
      table = c.in-Ok.table;
      saves = c.in-Ok.ensures.saves;
    } in
    run_saves g.D.Disk.tells (g.D.Disk.shown c.args.disk.now) new line.plant c.args.every kept c.report_of.result on
    (late_of g.D.Disk.tells new line.plant line.live.graph c.args.every c.args.work.state same c.requires.begun
    c.in-Ok.ensures.late)
    c.report_of.ensures

pub returns-in-Err : goal.returns-in-Err
returns-in-Err g c =
    let line = c.args.line in
    let kept =
    kept_of line.plant line.live.graph c.requires.plant.graph c.run_with_slots.ensures.any_moment
    c.run_with_slots.ensures.faults_stay_or_rise in
    run_fails g.D.Disk.tells (g.D.Disk.shown c.args.disk.now)
    (g.D.Disk.shown c.run_with_slots.new.disk) line.plant c.args.every kept c.in-Err.error c.slot_refusal.result
    (λ is. c.in-Err.ensures.disk_fault (ap (λ (error : SlotError). Err error) is)) c.slot_refusal.ensures
