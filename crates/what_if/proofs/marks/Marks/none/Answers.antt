use Rattle.std.proofs.Common.{◌+◌, ◌/◌, ◌∙◌, ap, sym, arith}
use Rattle.what_if.specs.Marks.{bits_of, is_at}
use Rattle.what_if.proofs.Bits.{length-bits, is_at-zeros, count_of-none}
use Rattle.what_if.proofs.marks.Marks.none.Goals as goal

pub returns-clause-none : goal.returns-clause-none
returns-clause-none c k =
    let zeros = c.in_ok-words.ensures.items_if_clones_equal (λ y same. same) in
    ap (λ words. is_at (bits_of words) k) zeros ∙ is_at-zeros (c.args.size / 64 + 1) k

pub returns-clause-room : goal.returns-clause-room
returns-clause-room c =
    omega (arith, length-bits c.in_ok-words.words.items, c.in_ok-words.ensures.len)

pub invariant_of-result : goal.invariant_of-result
invariant_of-result c = record {
  few = omega (arith, c.in_ok-words.ensures.len, c.requires);
  counted = sym (count_of-none (bits_of c.in_ok-words.words.items) (returns-clause-none c));
}
