use Rattle.std.proofs.Common.{◌≡◌, ◌≤◌, ◌-◌, ◌++◌, true, List, length, take, IsTrue}
use Rattle.crash_disk.specs.DiskView.{Passes, after_write}
use Rattle.crash_disk.specs.RawFile.{RawCall, raw_now, disk_of}
use Rattle.crash_disk.proofs.RawRuns.{WritesSoFar}
use Rattle.crash_disk.proofs.file_disk.put.Given as goal

-- the calls so far wrote this many bytes, and whatever writes the rest writes all
abbrev pub invariant-loop-taken : goal.invariant-loop-taken
invariant-loop-taken g l = record {
  within : l.taken ≤ length l.bytes;
  is_open : (g.F.RawFile.shown l.file).is_open ≡ true;
  calls : (calls : List RawCall) × ((g.F.RawFile.shown l.file).asked ≡ (g.F.RawFile.shown l.initial.file).asked ++ calls) × WritesSoFar l.at l.bytes l.taken calls;
  written : IsTrue g.F.RawFile.tells → raw_now (g.F.RawFile.shown l.file) ≡ after_write (raw_now (g.F.RawFile.shown l.initial.file)) l.at (take l.taken l.bytes);
  time : IsTrue g.F.RawFile.tells → Passes (disk_of (g.F.RawFile.shown l.initial.file)) (disk_of (g.F.RawFile.shown l.file));
}

abbrev pub decreases-loop-taken : goal.decreases-loop-taken
decreases-loop-taken g l = length l.bytes - l.taken
