use Rattle.std.proofs.Common.{◌≡◌, List, ℕ, OnOk, IsTrue, subst, rules}
use Rattle.crash_disk.specs.DiskView.{LeavesOnly, held_now}
use Rattle.crash_disk.specs.declared.slots.head.TheConstants.{MAX_ROOM}
use Rattle.crash_disk.specs.Crash.{IsOldOrNew, IsSaved}
use Rattle.line_workers.specs.Line.{run_in}
use Rattle.line_runs.specs.Store.{text_of, IsOver}
use Rattle.line_runs.proofs.slots.save_line.Goals as goal

pub returns-in-Ok-clause-any_moment : goal.returns-in-Ok-clause-any_moment
returns-in-Ok-clause-any_moment g c = λ known.
    let given : c.text.result.now ≡ text_of (run_in c.args.line.now) = search rules in
    let old = g.D.Disk.shown c.args.disk.now in
    let new = g.D.Disk.shown c.save_text.new.disk in
    subst (λ (text : List ℕ). LeavesOnly old new (IsOldOrNew (held_now old) MAX_ROOM text)) given (c.save_text.ensures.any_moment known)

pub returns-in-Ok-clause-saved : goal.returns-in-Ok-clause-saved
returns-in-Ok-clause-saved g c =
    let given : c.text.result.now ≡ text_of (run_in c.args.line.now) = search rules in
    let new = g.D.Disk.shown c.save_text.new.disk in
    subst (λ (text : List ℕ). OnOk c.save_text.result (IsTrue g.D.Disk.tells → IsSaved (held_now new) MAX_ROOM text)) given c.save_text.ensures.saved

pub returns-in-Ok-clause-too_long : goal.returns-in-Ok-clause-too_long
returns-in-Ok-clause-too_long g c = λ have is.
    let given : c.text.result.now ≡ text_of (run_in c.args.line.now) = search rules in
    subst (IsOver MAX_ROOM have) given (c.save_text.ensures.too_long have is)
