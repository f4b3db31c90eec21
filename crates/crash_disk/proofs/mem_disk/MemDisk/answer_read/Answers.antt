use Rattle.std.proofs.Common.{refl, sym, ap, ◌∙◌, subst, length}
use Rattle.std.specs.Prelude.{IsErr}
use Rattle.crash_disk.specs.declared.disk.DiskError.TheVariants as disk_error
use Rattle.crash_disk.specs.DiskView.{held_now}
use Rattle.crash_disk.specs.MemDisk.{mem_view}
use Rattle.crash_disk.proofs.RawModel.{passes_here}
use Rattle.crash_disk.proofs.Push.{error_is, ok_found, counts_none, same_error, counts_as, found_or_not, length-bytes_at, error_alone, no_error}
use Rattle.crash_disk.proofs.mem_disk.MemDisk.answer_read.Goals as goal

pub returns-in_err-bytes : goal.returns-in_err-bytes
returns-in_err-bytes c =
    let result = c.from_residual.result in
    let is = error_is result disk_error.NoMemory c.from_residual.ensures.1 in
    record {
      asked_stays = refl;
      due = λ due. subst (λ r. IsErr r) (sym is) refl;
      refused = λ failed. cc (sym is ∙ failed);
      failing_stays = refl;
      counted = λ found. absurd (found is);
      not_counted = λ memory. refl;
      count = error_alone result _ is;
      bytes = error_alone result _ is;
      stays = refl;
      time = passes_here (mem_view c.args.self.now);
      faults = counts_none _ result is;
    }

pub returns-in_err-count_call : goal.returns-in_err-count_call
returns-in_err-count_call c =
    let result = c.from_residual-in_err-count_call.result in
    let error = c.in_err-count_call.field-0.0 in
    let is = error_is result error c.from_residual-in_err-count_call.ensures.1 in
    let call = c.in_err-count_call.ensures in
    record {
      asked_stays = call.asked_stays;
      due = λ due. subst (λ r. IsErr r) (sym is) refl;
      refused = λ failed. c.is_due-failed.ensures.0 (call.failed (same_error error _ (sym is ∙ failed)));
      failing_stays = call.failing_stays;
      counted = λ found. call.counted (λ memory. found (is ∙ same_error error _ memory));
      not_counted = λ memory. call.not_counted (same_error error _ (sym is ∙ memory));
      count = error_alone result _ is;
      bytes = error_alone result _ is;
      stays = found_or_not c.count_call.result c.count_call.ensures.held c.count_call.ensures.no_memory;
      time = call.time;
      faults = counts_as _ _ error result is call.faults;
    }

pub returns : goal.returns
returns c =
    let call = c.in_ok-count_call.ensures in
    record {
      asked_stays = call.asked_stays;
      due = λ due. call.due (c.is_due-failed.ensures.1 due);
      refused = λ failed. absurd (no_error _ _ failed);
      failing_stays = call.failing_stays;
      counted = λ found. call.counted (ok_found tt);
      not_counted = λ memory. absurd (no_error _ _ memory);
      count = ap length c.in_ok-bytes.ensures ∙ length-bytes_at (held_now (mem_view c.args.self.now)).bytes c.args.at c.args.len;
      bytes = c.in_ok-bytes.ensures;
      stays = found_or_not c.count_call.result c.count_call.ensures.held c.count_call.ensures.no_memory;
      time = call.time;
      faults = record {
        cause = λ failed. absurd (no_error _ _ failed);
        once = λ failed. absurd (no_error _ _ failed);
        memory_is_no_fault = λ memory. absurd (no_error _ _ memory);
        faults_stay = call.faults.faults_stay;
        stays_or_rises = call.faults.stays_or_rises;
      };
    }
