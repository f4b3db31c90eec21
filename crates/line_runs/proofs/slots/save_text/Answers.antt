use Rattle.std.proofs.Common.{◌≡◌, ℕ, OnOk, IsTrue, subst, rules}
use Rattle.crash_disk.specs.DiskView.{held_now}
use Rattle.crash_disk.specs.Crash.{IsSaved}
use Rattle.line_runs.proofs.slots.save_text.Goals as goal

pub returns-clause-saved : goal.returns-clause-saved
returns-clause-saved g c =
    let given : c.save.new.self.disk.now ≡ c.disk-1.given.0 = search rules in
    let saved = subst (λ (room : ℕ). OnOk c.save.result (IsTrue g.D.Disk.tells → IsSaved (held_now (g.D.Disk.shown c.save.new.self.disk.now)) room c.args.text.now)) c.new.ensures.room c.save.ensures.saved in
    rw given at saved
