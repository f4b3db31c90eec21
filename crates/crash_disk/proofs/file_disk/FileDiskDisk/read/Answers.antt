use Rattle.std.proofs.Common.{◌≡◌, refl, sym, ◌∙◌, subst, length}
use Rattle.std.specs.Prelude.{IfOk, IsErrOf, IsTrue, is_ok}
use Rattle.crash_disk.specs.Counted.{CountsFault}
use Rattle.crash_disk.specs.DiskView.{bytes_at}
use Rattle.crash_disk.specs.RawFile.{AsksToRead, Asks, zeros_behind, given_by, raw_now}
use Rattle.crash_disk.specs.declared.disk.DiskError.TheVariants as disk_error
use Rattle.crash_disk.proofs.RawModel.{passes_with}
use Rattle.crash_disk.proofs.file_disk.FileDiskDisk.read.Goals as goal

pub returns : goal.returns
returns g c =
    let old = g.F.RawFile.shown c.args.self.now.file in
    let new = g.F.RawFile.shown c.read_counted-answer.new.file in
    let read = c.read_counted-answer.ensures in
    let same = sym c.note_read.ensures.same in
    let faults = subst (λ r. CountsFault c.args.self.now.faults c.read_counted-answer.new.faults r) same read.faults in
    record {
      asks = subst (λ r. ¬ (IsErrOf r disk_error.NoMemory) → Asks old.asked new.asked (λ calls. AsksToRead c.args.self.now.broken old.is_open c.args.at c.args.len calls (is_ok r) × IfOk r (λ v. v.items ≡ zeros_behind c.args.len (given_by calls)))) same read.asks;
      asks_nothing = λ memory. read.asks_nothing (same ∙ memory);
      recorded = c.note_read.ensures.noted;
      broken_stays = refl;
      count = subst (λ r. IfOk r (λ v. length v.items ≡ c.args.len)) same read.count;
      bytes = subst (λ r. IfOk r (λ v. IsTrue g.F.RawFile.tells → v.items ≡ bytes_at (raw_now old).bytes c.args.at c.args.len)) same read.bytes;
      stays = read.stays;
      time = λ known. passes_with old new _ _ _ _ (read.time known);
      cause = faults.cause;
      once = faults.once;
      memory_is_no_fault = faults.memory_is_no_fault;
      faults_stay = faults.faults_stay;
      faults_stay_or_rise = faults.stays_or_rises;
    }
