use Rattle.std.proofs.Common.{◌≡◌, ◌≤◌, ◌-◌, ◌++◌, true, List, length, take, IsTrue}
use Rattle.outside_io.specs.RawFiles.{FilesCall, Grows}
use Rattle.outside_io.proofs.RawFilesRuns.{WritesSoFar}
use Rattle.outside_io.proofs.file_writing.put.Given as goal

-- the calls so far wrote this many bytes, and whatever writes the rest writes all
abbrev pub invariant-loop-taken : goal.invariant-loop-taken
invariant-loop-taken g l = record {
  within : l.taken ≤ length l.bytes;
  is_open : (g.F.RawFiles.shown l.files).is_open ≡ true;
  calls : (calls : List FilesCall) × ((g.F.RawFiles.shown l.files).asked ≡ (g.F.RawFiles.shown l.initial.files).asked ++ calls) × WritesSoFar l.bytes l.taken calls;
  written : IsTrue g.F.RawFiles.tells → Grows (g.F.RawFiles.shown l.initial.files) (g.F.RawFiles.shown l.files) (take l.taken l.bytes);
}

abbrev pub decreases-loop-taken : goal.decreases-loop-taken
decreases-loop-taken g l = length l.bytes - l.taken
