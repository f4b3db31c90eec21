use Rattle.std.proofs.Common.{◌≡◌, ◌≤◌, List, ℕ, length, refl, sym, ap, ◌∙◌, subst, arith}
use Rattle.std.specs.Prelude.{Some, IfOk, IsErr}
use Rattle.std.proofs.lemmas.Bool.{true≢false}
use Rattle.outside_io.specs.Contents.{IsLongerThan}
use Rattle.outside_io.specs.Held.{contents}
use Rattle.outside_io.proofs.HeldLemmas.{not_due, found_held, due_or_absent, bytes_held, ok_anyway, no_answer}
use Rattle.outside_io.proofs.mem_store.MemStoreStore.read.Goals as goal

pub returns-in-Some : goal.returns-in-Some
returns-in-Some c =
    let known = contents c.args.self.now.files c.args.name.now in
    let copy = c.copy_to_limit-answer.ensures in
    let same = sym c.note_read.ensures.same in
    let well = not_due c.next-is_due.result c.readable.result _ c.readable.ensures.due c.in-Some.is in
    let held : known ≡ Some c.deref.result.now =
    found_held c.next-is_due.result c.readable.result _ (λ v. v.now.items) _ c.readable.ensures.else_found well c.in-Some.is
    ∙ ap (λ (xs : List ℕ). Some xs) (sym c.deref.ensures.value) in
    record {
      due = λ due. absurd (true≢false (sym (c.next-is_due.ensures.due.1 due) ∙ well));
      due_as_failed = λ due. absurd (true≢false (sym (c.next-is_due.ensures.due.1 due) ∙ well));
      refused = λ failed. absurd (copy.never_failed (same ∙ failed));
      counted = c.next-is_due.ensures.counted;
      keep_stays = refl;
      recorded = c.note_read.ensures.noted;
      bytes = subst (λ r. IfOk r (λ v. known ≡ Some v.items)) same (bytes_held _ _ c.copy_to_limit-answer.result held copy.bytes);
      within_limit = subst (λ r. IfOk r (λ v. length v.items ≤ c.args.limit)) same copy.within_limit;
      took_them = subst (λ r. IfOk r (λ v. c.copy_to_limit-answer.new.taken ≡ length v.items)) same copy.took_them;
      too_long = ((λ refused. copy.too_long.0 (same ∙ refused)), λ more. c.note_read.ensures.same ∙ copy.too_long.1 more);
      one_more_at_most = copy.one_more_at_most;
      fault_takes_none = λ failed. absurd (copy.never_failed (same ∙ failed));
      longer = λ long. subst (λ file. IsLongerThan c.args.limit file) (sym held) (copy.longer (same ∙ long));
      cause = λ failed. absurd (copy.never_failed (same ∙ failed));
      files_stay = refl;
      read_faults_stay = ok_anyway c.note_read.result (λ name. refl);
      read_faults_stay_or_rise = λ name. omega arith;
      write_faults_stay = refl;
      read_faults_rise_by_one = λ name. omega arith;
      memory_is_no_read_fault = λ memory name. refl;
    }

pub returns-in-None : goal.returns-in-None
returns-in-None c =
    let answer = c.note_read-in-None.result in
    let same = sym c.note_read-in-None.ensures.same in
    let refuse = c.refuse-answer.ensures in
    let failed_as = subst (λ r. IsErr r) same refuse.refused in
    record {
      due = λ due. failed_as;
      due_as_failed = λ due long. refuse.never_too_long (same ∙ long);
      refused = λ failed. due_or_absent c.next-is_due.result c.readable.result (λ v. v.now.items) _ c.next-is_due.ensures.due.0 c.readable.ensures.else_found c.in-None.is;
      counted = c.next-is_due.ensures.counted;
      keep_stays = refl;
      recorded = c.note_read-in-None.ensures.noted;
      bytes = no_answer answer _ failed_as;
      within_limit = no_answer answer _ failed_as;
      took_them = no_answer answer _ failed_as;
      too_long = ((λ long. absurd (refuse.never_too_long (same ∙ long))), λ more. absurd (omega (arith, more)));
      one_more_at_most = omega arith;
      fault_takes_none = λ failed. refl;
      longer = λ long. absurd (refuse.never_too_long (same ∙ long));
      cause = λ failed. refuse.counts.cause (same ∙ failed);
      files_stay = refl;
      read_faults_stay = no_answer answer _ failed_as;
      read_faults_stay_or_rise = refuse.counts.stays_or_rises;
      write_faults_stay = refl;
      read_faults_rise_by_one = refuse.counts.rises_by_one;
      memory_is_no_read_fault = λ memory. refuse.counts.memory_is_no_fault (same ∙ memory);
    }
