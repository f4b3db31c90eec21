use Rattle.std.proofs.Common.{IsTrue, refl, rules}
use Rattle.crash_disk.specs.declared.slots.head.TheConstants.{MAX_ROOM}
use Rattle.line_runs.specs.Saves.{IsDue}
use Rattle.line_runs.proofs.RunSaves.{leaves_saved}
use Rattle.line_runs.proofs.slots.save_if_due.Goals as goal

pub returns-clause-any_moment : goal.returns-clause-any_moment
returns-clause-any_moment g c = λ known.
    let yes : IsTrue c.is_due.result = search rules in
    let due = c.is_due.ensures.due.0 yes in
    leaves_saved (g.D.Disk.shown c.args.disk.now) (g.D.Disk.shown c.save_line.new.disk) MAX_ROOM c.args.line.now c.is_due.ensures.line due.not_all (c.save_line.ensures.any_moment known)

pub returns-in_err-save_line-clause-any_moment : goal.returns-in_err-save_line-clause-any_moment
returns-in_err-save_line-clause-any_moment g c = λ known.
    let yes : IsTrue c.is_due.result = search rules in
    let due = c.is_due.ensures.due.0 yes in
    leaves_saved (g.D.Disk.shown c.args.disk.now) (g.D.Disk.shown c.save_line.new.disk) MAX_ROOM c.args.line.now c.is_due.ensures.line due.not_all (c.save_line.ensures.any_moment known)

pub returns-clause-saved : goal.returns-clause-saved
returns-clause-saved g c =
    let yes : IsTrue c.is_due.result = search rules in
    let due = c.is_due.ensures.due.0 yes in
    record {
      due_count = λ _. c.fired-last.ensures.fired;
      due_saved = λ _ known. c.in_ok-save_line.ensures.saved known;
      else_count = λ not_due. absurd (not_due due);
      else_untouched = λ not_due. absurd (not_due due);
    }

pub returns-then-not-is_due-clause-saved : goal.returns-then-not-is_due-clause-saved
returns-then-not-is_due-clause-saved g c =
    let not_due : ¬ IsDue c.args.every c.args.last.now.fired c.args.line.now = search rules in
    record {
      due_count = λ due. absurd (not_due due);
      due_saved = λ due known. absurd (not_due due);
      else_count = λ _. refl;
      else_untouched = λ _. refl;
    }
