use Rattle.std.proofs.Common.{◌++◌, ◌∷◌, List, [], replicate, ap, ◌∙◌, arith}
use Rattle.std.proofs.lemmas.List.{replicate_more}
use Rattle.checkpoint.specs.Kept.{KeptWords, no_words}
use Rattle.checkpoint.proofs.kept.empty_logs.Goals as goal

pub push_reserved-requires : goal.push_reserved-requires
push_reserved-requires c = omega (arith, c.loop.invariant.count, c.loop.invariant.room, c.loop-test.true)

pub loop-preserved : goal.loop-preserved
loop-preserved c = record {
  items =
      c.push_reserved.ensures.items
      ∙ ap (λ (l : List KeptWords). l ++ c.new.result ∷ []) c.loop.invariant.items
      ∙ ap (λ (w : KeptWords). replicate c.loop.counter no_words ++ w ∷ []) c.new.ensures
      ∙ replicate_more c.loop.counter no_words;
  count = omega (arith, c.push_reserved.ensures.len, c.loop.invariant.count);
  room = omega (arith, c.push_reserved.ensures.capacity, c.loop.invariant.room);
}
