use Rattle.std.proofs.Common.{arith}
use Rattle.std.proofs.lemmas.List.Sums.{count_by-le-length}
use Rattle.what_if.specs.Marks.{bits_of}
use Rattle.what_if.proofs.Bits.{length-bits, in_words}
use Rattle.what_if.proofs.marks.Marks.insert.Goals as goal

pub has_bit-requires : goal.has_bit-requires
has_bit-requires c = omega (arith, in_words _ _ _ c.self.view_is c.requires)

pub set_bit-requires : goal.set_bit-requires
set_bit-requires c = in_words _ _ _ c.self.view_is c.requires

pub overflow_add-self : goal.overflow_add-self
overflow_add-self c =
    omega (arith, c.self.invariant.counted, c.self.invariant.few, count_by-le-length (λ mark. mark) (bits_of c.self.inside.words.items), length-bits c.self.inside.words.items)
