use Rattle.std.proofs.Common.{length, ◌-◌, ◌≡◌, ◌≤◌, ◌++◌, List, take}
use Rattle.outside_io.specs.RawOut.{OutCall, taken_of}
use Rattle.outside_io.proofs.RawOutLemmas.{HandsSoFar}
use Rattle.outside_io.proofs.std_sink.hand_on.Given as goal

-- the calls so far took this many bytes, and whatever hands on the rest hands on all
abbrev pub invariant-loop-taken : goal.invariant-loop-taken
invariant-loop-taken g l = record {
  within : l.taken ≤ length l.piece;
  calls : (calls : List OutCall) × (g.O.RawOut.asked l.out ≡ g.O.RawOut.asked l.initial.out ++ calls) × HandsSoFar l.piece l.taken calls;
  written : taken_of (g.O.RawOut.asked l.out) ≡ taken_of (g.O.RawOut.asked l.initial.out) ++ take l.taken l.piece;
}

abbrev pub decreases-loop-taken : goal.decreases-loop-taken
decreases-loop-taken g l = length l.piece - l.taken
