use Rattle.std.proofs.Common.{refl, arith, get_or}
use Rattle.what_if.proofs.Bits.{none_in_word, first_in_word}
use Rattle.what_if.proofs.marks.first_bit_of_rest.Goals as goal

pub loop-k-preserved : goal.loop-k-preserved
loop-k-preserved c =
    let words = c.args.words.now in
    none_in_word words c.args.from c.loop-k.k (get_or words c.loop-k.k 0) (omega arith) (λ i after low. refl) (omega arith) c.loop-k.invariant

pub returns-then-words-k-ne0 : goal.returns-then-words-k-ne0
returns-then-words-k-ne0 c =
    let words = c.args.words.now in
    let low = c.lowest_bit.ensures in
    first_in_word words c.args.from c.loop-k.k (get_or words c.loop-k.k 0) c.lowest_bit.result (omega arith) (λ i after in_word. refl) c.loop-k.invariant low.within low.set low.none_below (omega arith)
