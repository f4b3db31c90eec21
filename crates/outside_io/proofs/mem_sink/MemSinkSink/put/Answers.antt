use Rattle.std.proofs.Common.{◌≡◌, inl, inr, ⊎_elim, ℕ, ◌-◌, ◌++◌, List, length, take, min, refl, sym, ap, ◌∙◌, length-take, arith}
use Rattle.std.proofs.lemmas.Bool.{false≢true}
use Rattle.std.proofs.lemmas.List.{take_min}
use Rattle.outside_io.proofs.WrittenLemmas.{puts_prefix_of_take}
use Rattle.outside_io.proofs.mem_sink.MemSinkSink.put.Goals as goal
use Rattle.outside_io.proofs.mem_sink.MemSinkSink.put.Goals.{else-not-is_due-via-then-not-is_due+else-piece-left, else-not-is_due-via-else-not-is_due}

-- the prefix of a piece that is kept, whichever of its bounds is the least
kept_is : (kept left keep : ℕ) (piece : List ℕ) → kept ≡ min (min (length piece) left) keep → take kept piece ≡ take (min keep left) piece
kept_is kept left keep piece is =
    let same : kept ≡ min (min keep left) (length piece) = omega (arith, is) in
    ap (λ n. take n piece) same ∙ take_min (min keep left) piece

pub overflow_sub-left : goal.overflow_sub-left
overflow_sub-left c = omega (arith, c.len.ensures, c.args.self.now.fits)

pub invariant_of-self : goal.invariant_of-self
invariant_of-self c =
    let sink = c.args.self.now in
    record {
      fits = omega (arith, c.append.ensures.len, c.if-piece-left.true, c.len.ensures, sink.fits);
      has_room = omega (arith, c.append.ensures.capacity, sink.has_room);
    }

pub returns-then-piece-left-clause-refused : goal.returns-then-piece-left-clause-refused
returns-then-piece-left-clause-refused c = (
  (λ wrong. absurd (false≢true wrong)),
  λ why. ⊎_elim
      (λ due. absurd (false≢true (sym c.if-not-is_due.true ∙ c.next-is_due.ensures.due.1 due)))
      (λ long. absurd (omega (arith, long, c.if-piece-left.true, c.len.ensures, c.args.self.now.bytes.ok.0)))
      why,
)

pub append-requires-2 : goal.append-requires-2
append-requires-2 c =
    let sink = c.args.self.now in
    omega (arith, length-take c.min-kept.result c.args.piece.now, c.min-kept.ensures, c.min.ensures, c.len.ensures, sink.fits, sink.has_room)

pub invariant_of-self-2 : goal.invariant_of-self-2
invariant_of-self-2 c =
    let sink = c.args.self.now in
    record {
      fits = omega (arith, c.append-2.ensures.len, length-take c.min-kept.result c.args.piece.now, c.min-kept.ensures, c.min.ensures, c.len.ensures, sink.fits);
      has_room = omega (arith, c.append-2.ensures.capacity, sink.has_room);
    }

pub returns-clause-refused : goal.returns-clause-refused
returns-clause-refused c = (
  (λ is. elim c.else-not-is_due.branch [
    | else-not-is_due-via-then-not-is_due+else-piece-left w ↦ inr (omega (arith, w.if-piece-left.false, c.len.ensures, c.args.self.now.bytes.ok.0))
    | else-not-is_due-via-else-not-is_due w ↦ inl (c.next-is_due.ensures.due.0 w.if-not-is_due.false)
  ]),
  λ why. refl,
)

pub returns-clause-kept : goal.returns-clause-kept
returns-clause-kept c =
    let sink = c.args.self.now in
    c.append-2.ensures.items
    ∙ ap (λ bytes. sink.bytes.items ++ bytes) (kept_is c.min-kept.result (sink.room - length sink.bytes.items) sink.keep c.args.piece.now (omega (arith, c.min-kept.ensures, c.min.ensures, c.len.ensures, sink.bytes.ok.0)))

pub returns-clause-prefix : goal.returns-clause-prefix
returns-clause-prefix c =
    puts_prefix_of_take _ _ c.args.piece.now _ c.append-2.ensures.items
