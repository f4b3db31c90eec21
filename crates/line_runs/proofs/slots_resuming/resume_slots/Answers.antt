use Rattle.std.proofs.Common.{◌≡◌, ℕ, IsTrue, List, None, Ok, Err, ap, subst, arith, rules}
use Rattle.std.proofs.lemmas.Result.{err_from_is_err_and}
use Rattle.crash_disk.specs.declared.slots.error.SlotError.{SlotError}
use Rattle.crash_disk.specs.declared.slots.error.SlotError.TheVariants.{NoneSaved}
use Rattle.crash_disk.specs.declared.slots.head.TheConstants.{MAX_ROOM}
use Rattle.crash_disk.specs.Crash.{bytes_now}
use Rattle.crash_disk.specs.Layout.{content}
use Rattle.crash_disk.specs.Loads.{HasLoaded}
use Rattle.line_runs.specs.Resume.{Resumes}
use Rattle.line_runs.specs.Scheduler.{IsResumedBy}
use Rattle.line_runs.proofs.SlotsResumed.{Found, not_loaded, load_fault, not_resumed, resumed}
use Rattle.line_runs.proofs.slots_resuming.resume_slots.Given.{Over}
use Rattle.line_runs.proofs.slots_resuming.resume_slots.Goals as goal
use Rattle.line_runs.proofs.slots_resuming.resume_slots.Goals.{In-Ok}

-- the bytes that were loaded
loaded : (g : Over) (c : In-Ok g) → Found g.D.Disk.tells (g.D.Disk.shown c.args.disk.now) (g.D.Disk.shown c.load.new.self.disk.now) MAX_ROOM c.in-Ok.text.items
loaded g c = record { known = λ known. let saved = c.in-Ok.ensures.saved known in cc; read = search rules }

pub not_loaded-requires : goal.not_loaded-requires
not_loaded-requires g c = λ have is. c.in-Err.ensures.never_too_long have (ap (λ (refusal : SlotError). Err refusal) is)

pub returns-in-Err-clause-resumes : goal.returns-in-Err-clause-resumes
returns-in-Err-clause-resumes g c =
    let old = g.D.Disk.shown c.args.disk.now in
    let new = g.D.Disk.shown c.disk-1.given.0 in
    let given : c.load.new.self.disk.now ≡ c.disk-1.given.0 = search rules in
    let none : c.in-Err.refusal ≡ NoneSaved → IsTrue g.D.Disk.tells → content (bytes_now old) MAX_ROOM ≡ None =
    λ is known. let none = c.in-Err.ensures.none_saved (ap (λ (refusal : SlotError). Err refusal) is) known in cc in
    let loaded : HasLoaded MAX_ROOM old (g.D.Disk.shown c.load.new.self.disk.now) (Err c.in-Err.refusal) = search rules in
    let read : HasLoaded MAX_ROOM old new (Err c.in-Err.refusal) = rw given at loaded in
    not_loaded g.D.Disk.tells old new MAX_ROOM c.args.live.now.graph c.in-Err.refusal c.not_loaded.result c.not_loaded.ensures none read

pub returns-in-Err-clause-disk_fault : goal.returns-in-Err-clause-disk_fault
returns-in-Err-clause-disk_fault g c = λ fault.
    let is = load_fault c.in-Err.refusal c.not_loaded.result c.not_loaded.ensures (grind (arith, fault)) in
    let rose = c.in-Err.ensures.disk_fault (ap (λ (refusal : SlotError). Err refusal) is) in
    search rules

pub returns-in_err-resume-in-Ok-clause-resumes : goal.returns-in_err-resume-in-Ok-clause-resumes
returns-in_err-resume-in-Ok-clause-resumes g c =
    let bytes = c.in-Ok.text.items in
    let error = c.in_err-resume-in-Ok.field-0.0 in
    let p = err_from_is_err_and c.from_residual.result c.from_residual.ensures.1 in
    let given : c.load.new.self.disk.now ≡ c.disk-1.given.0 = search rules in
    let found = rw given at (loaded g (goal.at.returns-in_err-resume-in-Ok-clause-resumes g c).In-Ok) in
    let resumes = subst (λ (xs : List ℕ). Resumes c.args.live.now.graph xs (Err error)) c.as_slice.ensures.value c.in_err-resume-in-Ok.ensures.resumes in
    rw (p.1, p.2) (not_resumed g.D.Disk.tells (g.D.Disk.shown c.args.disk.now) (g.D.Disk.shown c.disk-1.given.0) MAX_ROOM c.args.live.now.graph bytes error found resumes)

pub returns-in_ok-resume-in-Ok-clause-resumes : goal.returns-in_ok-resume-in-Ok-clause-resumes
returns-in_ok-resume-in-Ok-clause-resumes g c =
    let bytes = c.in-Ok.text.items in
    let dates = c.in_ok-resume-in-Ok.field-0 in
    let given : c.load.new.self.disk.now ≡ c.disk-1.given.0 = search rules in
    let found = rw given at (loaded g (goal.at.returns-in_ok-resume-in-Ok-clause-resumes g c).In-Ok) in
    let resumes = subst (λ (xs : List ℕ). Resumes c.args.live.now.graph xs (Ok dates)) c.as_slice.ensures.value c.in_ok-resume-in-Ok.ensures.resumes in
    resumed g.D.Disk.tells (g.D.Disk.shown c.args.disk.now) (g.D.Disk.shown c.disk-1.given.0) MAX_ROOM c.args.live.now.graph bytes dates found resumes

pub returns-in_ok-resume-in-Ok-clause-by : goal.returns-in_ok-resume-in-Ok-clause-by
returns-in_ok-resume-in-Ok-clause-by g c =
    let dates = c.in_ok-resume-in-Ok.field-0 in
    let found = loaded g (goal.at.returns-in_ok-resume-in-Ok-clause-by g c).In-Ok in
    record {
      bytes = c.in-Ok.text.items;
      saved = found.known;
      resumed = subst (λ (xs : List ℕ). IsResumedBy c.args.live.now xs c.args.workers dates) c.as_slice.ensures.value c.in_ok-resume-in-Ok.ensures.by;
    }
