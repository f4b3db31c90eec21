use Rattle.std.proofs.Common.{◌≡◌, drop, length}
use Rattle.std.specs.List.{fold}
use Rattle.what_if.specs.Evaluation.{with_reader}
use Rattle.what_if.proofs.renewal.mark_readers.Given as goal

abbrev pub invariant-loop-a : goal.invariant-loop-a
invariant-loop-a l = record {
  rest : fold (with_reader l.live l.n) l.marks (drop l.a-index l.a-items) ≡ fold (with_reader l.live l.n) l.initial.marks l.a-items;
  room : length l.marks ≡ length l.initial.marks;
}
