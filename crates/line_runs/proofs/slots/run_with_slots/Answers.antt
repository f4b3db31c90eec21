use Rattle.std.proofs.Common.{sym, ap, ◌∙◌, subst, arith, rules}
use Rattle.live_check.specs.Order.{LiveGraph}
use Rattle.crash_disk.specs.DiskView.{LeavesOnly, held_now}
use Rattle.crash_disk.specs.declared.slots.head.TheConstants.{MAX_ROOM}
use Rattle.line_runs.specs.Bursts.{IsDone}
use Rattle.line_runs.specs.Saves.{IsOldOrState, HasTooLongState}
use Rattle.line_runs.proofs.Firings.{burst_leaves_less}
use Rattle.line_runs.proofs.FirstBursts.{burst_live}
use Rattle.line_runs.proofs.RunSaves.{counted_before, finishes_saving, saves_begin, saves_go_on, leaves_at_first, leaves_then, follows_burst, late_state}
use Rattle.line_runs.proofs.slots.run_with_slots.Goals as goal

pub loop-alloc-init : goal.loop-alloc-init
loop-alloc-init g c = record {
  made_for = c.requires.made_for;
  follows = c.in-Ok.ensures.follows;
  on = saves_begin g.D.Disk.tells MAX_ROOM c.args.every c.args.line c.in-Ok.last.fired (g.D.Disk.shown c.args.disk.now) c.in-Ok.ensures.fired;
}

pub save_if_due-requires-clause-before : goal.save_if_due-requires-clause-before
save_if_due-requires-clause-before g c =
    let on = c.loop-alloc.invariant.on in
    omega (arith, on.counted, counted_before c.args.every c.args.line on.saved c.loop-alloc.line on.before, c.burst_on.ensures.some)

pub returns-in-Err-clause-any_moment : goal.returns-in-Err-clause-any_moment
returns-in-Err-clause-any_moment g c = λ known. leaves_at_first (g.D.Disk.shown c.args.disk.now) MAX_ROOM c.args.live.now.graph

pub returns-in-Err-save_if_due-clause-any_moment : goal.returns-in-Err-save_if_due-clause-any_moment
returns-in-Err-save_if_due-clause-any_moment g c = λ known.
    let old = g.D.Disk.shown c.args.disk.now in
    let now = g.D.Disk.shown c.loop-alloc.disk in
    let new = g.D.Disk.shown c.save_if_due.new.disk in
    let leaves = leaves_then g.D.Disk.tells MAX_ROOM c.args.every c.args.line c.loop-alloc.line c.burst_on.new.line c.loop-alloc.last.fired old now new c.loop-alloc.invariant.on c.burst_on.ensures c.save_if_due.ensures.any_moment known in
    subst (λ (v : LiveGraph). LeavesOnly old new (IsOldOrState (held_now old) MAX_ROOM v.graph)) (sym c.requires.made_for) leaves

pub loop-alloc-smaller : goal.loop-alloc-smaller
loop-alloc-smaller g c = burst_leaves_less c.loop-alloc.line c.burst_on.new.line c.burst_on.ensures

pub loop-alloc-preserved : goal.loop-alloc-preserved
loop-alloc-preserved g c =
    let old = g.D.Disk.shown c.args.disk.now in
    let now = g.D.Disk.shown c.loop-alloc.disk in
    let new = g.D.Disk.shown c.save_if_due.new.disk in
    record {
      made_for = c.loop-alloc.invariant.made_for ∙ sym (burst_live c.loop-alloc.line c.burst_on.new.line c.burst_on.ensures);
      follows = c.in_default.ensures.follows;
      on = saves_go_on g.D.Disk.tells MAX_ROOM c.args.every c.args.line c.loop-alloc.line c.burst_on.new.line c.loop-alloc.last.fired c.save_if_due.new.last.fired old now new c.loop-alloc.invariant.on c.burst_on.ensures c.in_default.ensures.saved c.save_if_due.ensures.any_moment c.save_if_due.ensures.faults_stay_or_rise;
    }

pub returns-clause-saves : goal.returns-clause-saves
returns-clause-saves g c =
    let on = c.loop-alloc.invariant.on in
    let done : IsDone c.loop-alloc.line = search rules in
    record {
      saved = on.saved;
      finishes = finishes_saving c.args.every c.args.line on.saved c.loop-alloc.line on.before c.finished.ensures.line done c.table_of.result c.table_of.ensures.dates;
      holds = on.holds;
    }

pub returns-clause-late : goal.returns-clause-late
returns-clause-late g c = λ known many.
    let on = c.loop-alloc.invariant.on in
    let done : IsDone c.loop-alloc.line = search rules in
    let same = ap (λ (v : LiveGraph). v.graph) c.requires.made_for in
    late_state c.args.live.now.graph c.args.every MAX_ROOM c.args.line on.saved c.loop-alloc.line (g.D.Disk.shown c.args.disk.now) (g.D.Disk.shown c.loop-alloc.disk) same c.none.ensures.line c.requires.some on.before done (on.holds known) many

pub burst_on-requires-clause-made_for : goal.burst_on-requires-clause-made_for
burst_on-requires-clause-made_for g c = λ κs within. c.loop-alloc.invariant.made_for

pub burst_on-requires-clause-undone : goal.burst_on-requires-clause-undone
burst_on-requires-clause-undone g c = let undone : ¬ IsDone c.loop-alloc.line = search rules in λ κs within. undone

pub save_if_due-requires-clause-follows : goal.save_if_due-requires-clause-follows
save_if_due-requires-clause-follows g c =
    follows_burst c.loop-alloc.line c.burst_on.new.line c.loop-alloc.last.kept c.burst_on.ensures c.loop-alloc.invariant.follows

pub save_if_due-requires-clause-made_for : goal.save_if_due-requires-clause-made_for
save_if_due-requires-clause-made_for g c =
    c.loop-alloc.invariant.made_for ∙ sym (burst_live c.loop-alloc.line c.burst_on.new.line c.burst_on.ensures)

pub returns-in-Err-save_if_due-clause-too_long : goal.returns-in-Err-save_if_due-clause-too_long
returns-in-Err-save_if_due-clause-too_long g c = λ have is.
    let same = burst_live c.loop-alloc.line c.burst_on.new.line c.burst_on.ensures ∙ sym c.loop-alloc.invariant.made_for in
    subst (λ (v : LiveGraph). HasTooLongState v.graph MAX_ROOM have) same (c.in-Err-save_if_due.ensures.too_long have (cc))

pub returns-clause-table : goal.returns-clause-table
returns-clause-table g c = c.table_of.ensures.table

pub returns-clause-any_moment : goal.returns-clause-any_moment
returns-clause-any_moment g c = λ known.
    let old = g.D.Disk.shown c.args.disk.now in
    let new = g.D.Disk.shown c.loop-alloc.disk in
    subst (λ (v : LiveGraph). LeavesOnly old new (IsOldOrState (held_now old) MAX_ROOM v.graph)) (sym c.requires.made_for) (c.loop-alloc.invariant.on.leaves known)
