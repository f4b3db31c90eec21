use Rattle.std.proofs.Common.{◌≡◌, ◌++◌, ◌∷◌, [], sym, ap, ◌∙◌, subst, length}
use Rattle.std.specs.Prelude.{IfOk, IsErr}
use Rattle.crash_disk.specs.Counted.{CountsFault}
use Rattle.crash_disk.specs.DiskView.{bytes_at, disk_read, held_now}
use Rattle.crash_disk.specs.MemDisk.{mem_view}
use Rattle.crash_disk.proofs.mem_disk.MemDiskDisk.read.Goals as goal

pub returns : goal.returns
returns c =
    let old = mem_view c.args.self.now in
    let read = c.answer_read-answer.ensures in
    let same = sym c.note_read.ensures.same in
    let faults = subst (λ r. CountsFault c.args.self.now.faults c.answer_read-answer.new.self.faults r) same read.faults in
    record {
      recorded = c.note_read.ensures.noted ∙ ap (λ asked. asked ++ disk_read c.args.at c.args.len c.note_read.result ∷ []) read.asked_stays;
      due = λ due. subst (λ r. IsErr r) same (read.due due);
      refused = λ failed. read.refused (same ∙ failed);
      failing_stays = read.failing_stays;
      counted = λ found. read.counted (λ memory. found (c.note_read.ensures.same ∙ memory));
      not_counted = λ memory. read.not_counted (same ∙ memory);
      count = subst (λ r. IfOk r (λ v. length v.items ≡ c.args.len)) same read.count;
      bytes = subst (λ r. IfOk r (λ v. v.items ≡ bytes_at (held_now old).bytes c.args.at c.args.len)) same read.bytes;
      stays = read.stays;
      time = (let passes = read.time in record { later = passes.later; past = passes.past; during = passes.during });
      cause = faults.cause;
      once = faults.once;
      memory_is_no_fault = faults.memory_is_no_fault;
      faults_stay = faults.faults_stay;
      faults_stay_or_rise = faults.stays_or_rises;
    }
