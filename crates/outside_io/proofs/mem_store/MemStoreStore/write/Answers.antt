use Rattle.std.proofs.Common.{◌≡◌, refl, sym, ◌∙◌, subst, arith}
use Rattle.std.specs.Prelude.{Some, OnOk, IsErr}
use Rattle.std.proofs.lemmas.Bool.{true≢false}
use Rattle.outside_io.specs.Held.{contents}
use Rattle.outside_io.proofs.HeldLemmas.{torn_left, ok_anyway, no_answer}
use Rattle.outside_io.proofs.mem_store.MemStoreStore.write.Goals as goal

pub returns-then-next : goal.returns-then-next
returns-then-next c =
    let same = sym c.note_write.ensures.same in
    let broke = c.break_off-answer.ensures in
    let failed_as = subst (λ r. IsErr r) same broke.refused in
    record {
      due = λ due. failed_as;
      refused = λ failed. c.next.ensures.due.0 c.if-next.true;
      kept = λ failed. broke.kept (same ∙ failed);
      counted = c.next.ensures.counted;
      keep_stays = refl;
      recorded = c.note_write.ensures.noted;
      written = no_answer c.note_write.result _ failed_as;
      others_stay = broke.others_stay;
      torn = λ failed. torn_left c.args.self.now.keep _ _ c.args.bytes.now (broke.kept (same ∙ failed));
      no_memory = λ memory. broke.no_memory (same ∙ memory);
      never_too_long = λ long. broke.never_too_long (same ∙ long);
      cause = λ failed. broke.counts.cause (same ∙ failed);
      taken_stays = refl;
      read_faults_stay = refl;
      write_faults_stay = no_answer c.note_write.result _ failed_as;
      write_faults_stay_or_rise = broke.counts.stays_or_rises;
      write_faults_rise_by_one = broke.counts.rises_by_one;
      memory_is_no_write_fault = λ memory. broke.counts.memory_is_no_fault (same ∙ memory);
    }

pub returns : goal.returns
returns c =
    let same = sym c.note_write-2.ensures.same in
    let gave = c.give-answer.ensures in
    record {
      due = λ due. absurd (true≢false (sym (c.next.ensures.due.1 due) ∙ c.if-next.false));
      refused = λ failed. absurd (gave.never_failed (same ∙ failed));
      kept = λ failed. absurd (gave.never_failed (same ∙ failed));
      counted = c.next.ensures.counted;
      keep_stays = refl;
      recorded = c.note_write-2.ensures.noted;
      written = subst (λ r. OnOk r (contents c.give-answer.new.files c.args.name.now ≡ Some c.args.bytes.now)) same gave.written;
      others_stay = gave.others_stay;
      torn = λ failed. absurd (gave.never_failed (same ∙ failed));
      no_memory = λ memory. gave.no_memory (same ∙ memory);
      never_too_long = λ long. gave.never_too_long (same ∙ long);
      cause = λ failed. absurd (gave.never_failed (same ∙ failed));
      taken_stays = refl;
      read_faults_stay = refl;
      write_faults_stay = ok_anyway c.note_write-2.result (λ name. refl);
      write_faults_stay_or_rise = λ name. omega arith;
      write_faults_rise_by_one = λ name. omega arith;
      memory_is_no_write_fault = λ memory name. refl;
    }
