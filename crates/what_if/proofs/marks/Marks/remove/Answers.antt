use Rattle.std.proofs.Common.{◌≡◌, ◌<◌, ◌+◌, ℕ, List, Bool, true, false, set, length, sym, ap, ◌∙◌, arith}
use Rattle.std.proofs.lemmas.List.{set-get_or}
use Rattle.what_if.specs.Marks.{bits_of, is_at, count_of}
use Rattle.what_if.proofs.Bits.{in_words, count_of-removed}
use Rattle.what_if.proofs.marks.Marks.remove.Goals as goal

pub has_bit-requires : goal.has_bit-requires
has_bit-requires c = omega (arith, in_words _ _ _ c.self.view_is c.requires)

pub clear_bit-requires : goal.clear_bit-requires
clear_bit-requires c = in_words _ _ _ c.self.view_is c.requires

-- the number had a mark
less : (items words new : List ℕ) (view : List Bool) (k : ℕ) (has : Bool) → bits_of items ≡ view → k < length view → words ≡ items → has ≡ is_at (bits_of words) k → has ≡ true → bits_of new ≡ set (bits_of items) k false → count_of (bits_of items) ≡ count_of (bits_of new) + 1
less items words new view k has is low same asked marked cleared =
    omega (arith, count_of-removed (bits_of items) k (omega (arith, ap length is, low)) (ap (λ w. is_at (bits_of w) k) (sym same) ∙ sym asked ∙ marked), ap count_of cleared)

pub overflow_sub-self : goal.overflow_sub-self
overflow_sub-self c =
    omega (arith, c.self.invariant.counted, less _ _ _ _ _ _ c.self.view_is c.requires c.deref.ensures.value c.has_bit.ensures c.if-has_bit.true c.clear_bit.ensures.bits)

pub invariant_of-self : goal.invariant_of-self
invariant_of-self c = record {
  few = omega (arith, c.clear_bit.ensures.len, c.self.invariant.few);
  counted = omega (arith, c.self.invariant.counted, less _ _ _ _ _ _ c.self.view_is c.requires c.deref.ensures.value c.has_bit.ensures c.if-has_bit.true c.clear_bit.ensures.bits);
}

pub returns-then-has_bit : goal.returns-then-has_bit
returns-then-has_bit c =
    c.clear_bit.ensures.bits ∙ ap (λ marks. set marks c.args.k false) c.self.view_is

pub returns-else-has_bit : goal.returns-else-has_bit
returns-else-has_bit c =
    let marks = c.args.self.now in
    let k = c.args.k in
    let none : is_at marks k ≡ false = ap (λ ms. is_at ms k) (sym c.self.view_is) ∙ ap (λ w. is_at (bits_of w) k) (sym c.deref.ensures.value) ∙ sym c.has_bit.ensures ∙ c.if-has_bit.false in
    sym (set-get_or marks k false) ∙ ap (set marks k) none
