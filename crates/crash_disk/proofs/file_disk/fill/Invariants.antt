use Rattle.std.proofs.Common.{◌≡◌, ◌≤◌, ◌-◌, ◌++◌, true, List, length, take, IsTrue}
use Rattle.crash_disk.specs.DiskView.{Passes, bytes_at}
use Rattle.crash_disk.specs.RawFile.{RawCall, given_by, raw_now, disk_of}
use Rattle.crash_disk.proofs.RawRuns.{ReadsSoFar}
use Rattle.crash_disk.proofs.file_disk.fill.Given as goal

-- the calls so far filled this much of the buffer, and whatever reads the rest reads all; nothing changed
abbrev pub invariant-loop-filled : goal.invariant-loop-filled
invariant-loop-filled g l = record {
  within : l.filled ≤ length l.bytes;
  size : length l.bytes ≡ length l.initial.bytes;
  is_open : (g.F.RawFile.shown l.file).is_open ≡ true;
  calls : (calls : List RawCall) × ((g.F.RawFile.shown l.file).asked ≡ (g.F.RawFile.shown l.initial.file).asked ++ calls) × ReadsSoFar l.at (length l.initial.bytes) l.filled calls × (take l.filled l.bytes ≡ given_by calls);
  bytes : IsTrue g.F.RawFile.tells → take l.filled l.bytes ≡ bytes_at (raw_now (g.F.RawFile.shown l.initial.file)).bytes l.at l.filled;
  stays : IsTrue g.F.RawFile.tells → raw_now (g.F.RawFile.shown l.file) ≡ raw_now (g.F.RawFile.shown l.initial.file);
  time : IsTrue g.F.RawFile.tells → Passes (disk_of (g.F.RawFile.shown l.initial.file)) (disk_of (g.F.RawFile.shown l.file));
}

abbrev pub decreases-loop-filled : goal.decreases-loop-filled
decreases-loop-filled g l = length l.initial.bytes - l.filled
