use Rattle.std.proofs.Common.{ap, ◌∙◌}
use Rattle.std.specs.Prelude.{Err}
use Rattle.std.proofs.lemmas.Result.{err_from_is_err_and}
use Rattle.crash_disk.specs.declared.disk.DiskError.{DiskError}
use Rattle.crash_disk.specs.Memory.{first_held}
use Rattle.crash_disk.proofs.Push.{held_push, passes_push, done_unless_failed, counts_none}
use Rattle.crash_disk.proofs.mem_disk.MemDisk.count_call.Goals as goal

pub returns-clause-done_unless_failed : goal.returns-clause-done_unless_failed
returns-clause-done_unless_failed c = done_unless_failed c.args.failed c.answer.result c.answer.ensures.failed

pub returns-clause-held : goal.returns-clause-held
returns-clause-held c = λ memory. held_push (first_held c.args.self.now.first.items) c.args.self.now.calls.items c.push.new.self.items c.args.call c.in_ok-push.ensures.items

pub returns-clause-time : goal.returns-clause-time
returns-clause-time c = passes_push (first_held c.args.self.now.first.items) c.args.self.now.calls.items c.push.new.self.items c.args.call _ _ _ _ c.in_ok-push.ensures.items

pub returns-in_err-push-clause-faults : goal.returns-in_err-push-clause-faults
returns-in_err-push-clause-faults c =
    let p = err_from_is_err_and c.from_residual.result c.from_residual.ensures.1 in
    counts_none _ c.from_residual.result (p.1 ∙ ap (λ (e : DiskError). Err e) p.2)

pub returns-clause-faults : goal.returns-clause-faults
returns-clause-faults c = record {
  cause = c.answer.ensures.cause;
  once = c.answer.ensures.once;
  memory_is_no_fault = λ memory. absurd (c.answer.ensures.never_no_memory memory);
  faults_stay = c.answer.ensures.stays;
  stays_or_rises = c.answer.ensures.faults_stay_or_rise;
}
