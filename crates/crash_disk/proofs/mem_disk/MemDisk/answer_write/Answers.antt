use Rattle.std.proofs.Common.{◌≡◌, not, refl, ap, ◌∙◌, subst, length, List, ◌++◌, ◌∷◌, [], Bool, false, is_ok, ℕ, rules}
use Rattle.crash_disk.specs.DiskView.{held_now, after_write, Torn}
use Rattle.crash_disk.specs.Memory.{after_call}
use Rattle.crash_disk.specs.MemDisk.{mem_view}
use Rattle.crash_disk.specs.declared.mem_disk.MemDisk.{MemDisk}
use Rattle.crash_disk.specs.declared.patch.Patch.{Patch}
use Rattle.crash_disk.specs.declared.patch.DiskCall.TheVariants as call
use Rattle.crash_disk.proofs.Push.{on_done, on_ok, failed_found, torn_by}
use Rattle.crash_disk.proofs.mem_disk.MemDisk.answer_write.Goals as goal

-- what the disk holds after a write that was done or not
abbrev Leaves : MemDisk → MemDisk → Patch → Bool → Type 0
Leaves old new patch done = held_now (mem_view new) ≡ after_call (held_now (mem_view old)) (call.Write patch done)

pub returns : goal.returns
returns c =
    let held = held_now (mem_view c.args.self.now) in
    let patch : Patch = record { at = c.args.at; bytes = c.in_ok-to_vec.field-0 } in
    let same : c.in_ok-to_vec.field-0.items ≡ c.args.bytes.now = search rules in
    let left = Leaves c.args.self.now c.count_call.new.self patch in
    let counts = c.count_call.ensures in
    record {
      asked_stays = counts.asked_stays;
      due = λ due. counts.due (c.is_due-failed.ensures.1 due);
      refused = λ failed. c.is_due-failed.ensures.0 (counts.failed failed);
      failing_stays = counts.failing_stays;
      counted = λ memory. record {
        patch = patch;
        at = refl;
        bytes = same;
        counted = counts.counted memory ∙ ap (λ done. c.args.self.now.calls.items ++ call.Write patch done ∷ []) (counts.done_unless_failed memory);
      };
      not_counted = counts.not_counted;
      written = on_ok c.count_call.result (on_done left (not c.is_due-failed.result) c.count_call.result counts.done_unless_failed counts.held)
          (λ done. done ∙ ap (λ bytes. after_write held c.args.at bytes) same);
      torn = λ err.
          let found = failed_found c.count_call.result err in
          let failed : left false = subst left (counts.done_unless_failed found ∙ ap is_ok err) (counts.held found) in
          subst (λ (bytes : List ℕ). Torn held (held_now (mem_view c.count_call.new.self)) c.args.at (length bytes)) same (torn_by held _ c.args.at c.in_ok-to_vec.field-0.items failed);
      no_memory = counts.no_memory;
      time = counts.time;
      faults = counts.faults;
    }
