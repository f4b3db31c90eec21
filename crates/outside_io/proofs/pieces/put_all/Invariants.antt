use Rattle.std.proofs.Common.{◌≡◌, ℕ, List, ◌++◌}
use Rattle.std.specs.Slice.Iter.{chunks_rest, chunks_size}
use Rattle.outside_io.specs.SinkView.{PutsAll}
use Rattle.outside_io.specs.declared.sink.TheConstants.{MAX_PIECE}
use Rattle.outside_io.proofs.pieces.put_all.Given as goal

-- what is done was appended, the rest is still to go, and no piece was refused
abbrev pub invariant-loop-piece : goal.invariant-loop-piece
invariant-loop-piece g l = record {
  size : chunks_size l.piece-iterator ≡ MAX_PIECE;
  done : (done : List ℕ) × (l.bytes ≡ done ++ chunks_rest l.piece-iterator) × PutsAll (g.K.Sink.shown l.initial.sink) (g.K.Sink.shown l.sink) done;
  no_fault : (g.K.Sink.shown l.sink).faults ≡ (g.K.Sink.shown l.initial.sink).faults;
}
