use Rattle.std.proofs.Common.{◌/◌, ◌%◌, ◌≤◌, inl, inr, arith}
use Rattle.std.proofs.lemmas.Bool.{cases_lt}
use Rattle.what_if.proofs.Bits.{none_in_word, first_in_word}
use Rattle.what_if.proofs.marks.first_bit.Goals as goal

pub first_bit_of_rest-requires-clause-none : goal.first_bit_of_rest-requires-clause-none
first_bit_of_rest-requires-clause-none c =
    let words = c.args.words.now in
    let j = c.args.from / 64 in
    none_in_word words c.args.from j c.bits_from-rest.result (omega arith) (λ i after low. c.bits_from-rest.ensures.kept i (omega arith) low) (omega arith) (λ k after low. absurd (omega arith))

pub returns-then-rest-ne0 : goal.returns-then-rest-ne0
returns-then-rest-ne0 c =
    let words = c.args.words.now in
    let j = c.args.from / 64 in
    let low = c.lowest_bit.ensures in
    let from_on : c.args.from % 64 ≤ c.lowest_bit.result = elim (cases_lt c.lowest_bit.result (c.args.from % 64)) [
      | inl before ↦ absurd (omega (arith, c.bits_from-rest.ensures.cleared c.lowest_bit.result before, low.set))
      | inr after ↦ after
    ] in
    first_in_word words c.args.from j c.bits_from-rest.result c.lowest_bit.result (omega arith) (λ i after in_word. c.bits_from-rest.ensures.kept i (omega arith) in_word) (λ k after before. absurd (omega arith)) low.within low.set low.none_below (omega (arith, from_on))
