use Rattle.std.proofs.Common.{◌≡◌, ◌≤◌, ◌-◌, ◌++◌, List, length, true, IsTrue}
use Rattle.outside_io.specs.RawFiles.{FilesCall, RawName, given_by}
use Rattle.outside_io.proofs.RawFilesRuns.{ReadsSoFar}
use Rattle.outside_io.proofs.file_reading.read_to_limit.Given as goal

-- the calls so far gave the bytes, and whatever reads on behind them reads all; no more than the limit, and none has
-- failed
abbrev pub invariant-loop-bytes : goal.invariant-loop-bytes
invariant-loop-bytes g l = record {
  is_open : (g.F.RawFiles.shown l.files).is_open ≡ true;
  calls : (calls : List FilesCall) × ((g.F.RawFiles.shown l.files).asked ≡ (g.F.RawFiles.shown l.initial.files).asked ++ calls) × ReadsSoFar l.limit l.bytes.items calls × (l.bytes.items ≡ given_by calls);
  left : IsTrue g.F.RawFiles.tells → (g.F.RawFiles.shown l.initial.files).left ≡ l.bytes.items ++ (g.F.RawFiles.shown l.files).left;
  stays : IsTrue g.F.RawFiles.tells → (q : RawName) → (g.F.RawFiles.shown l.files).held q ≡ (g.F.RawFiles.shown l.initial.files).held q;
  size : length l.buffer ≡ 16384;
  taken : l.taken ≡ length l.bytes.items;
  within_limit : length l.bytes.items ≤ l.limit;
  no_fault : l.faults ≡ l.initial.faults;
}

abbrev pub decreases-loop-bytes : goal.decreases-loop-bytes
decreases-loop-bytes g l = l.limit - length l.bytes.items
