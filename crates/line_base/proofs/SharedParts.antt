-- What holds of a part of a list and of the rest holds of the whole.
use Rattle.std.proofs.Common.{◌≡◌, ℕ, ◌+◌, ◌-◌, ◌<◌, ◌++◌, List, length, get_or, inl, inr, refl, sym, subst, ap, arith, ◌∙◌, length-append}
use Rattle.std.proofs.lemmas.Bool.{cases_lt}
use Rattle.std.proofs.lemmas.List.{get_or_append_left, get_or-append_right, get_or-append-add}
use Rattle.line_base.specs.Shared.{IsReady, IsDone}

module _ {X : Type 0} (P : ℕ → X → Type 0) (base : ℕ) where
  -- the rest is ready, where the whole is
  pub rest_ready : (all part rest : List X) (next : ℕ) → all ≡ part ++ rest → next ≡ base + length part → IsReady P base all → IsReady P next rest
  rest_ready all part rest next is at ready = record {
    room = omega (arith, at, ready.room, ap length is, length-append part rest);
    each = λ k d low.
        subst (λ n. P n (get_or rest k d)) {x = base + (length part + k)} (omega (arith, at))
        (subst (P (base + (length part + k))) (ap (λ l. get_or l (length part + k) d) is ∙ get_or-append-add part rest k d)
        (ready.each (length part + k) d (omega (arith, low, ap length is, length-append part rest))));
  }

  pub part_ready : (all part rest : List X) → all ≡ part ++ rest → IsReady P base all → IsReady P base part
  part_ready all part rest is ready = record {
    room = omega (arith, ready.room, ap length is, length-append part rest);
    each = λ k d low.
        subst (P (base + k)) (ap (λ l. get_or l k d) is ∙ get_or_append_left part rest d k low)
        (ready.each k d (omega (arith, low, ap length is, length-append part rest)));
  }

-- what both calls left is what the calls of the whole leave
pub both_done : {X : Type 0} (R : ℕ → X → X → Type 0) (base : ℕ) (all part rest part' rest' : List X) (next : ℕ) → all ≡ part ++ rest → next ≡ base + length part → IsDone R base part part' → IsDone R next rest rest' → IsDone R base all (part' ++ rest')
both_done R base all part rest part' rest' next is at front back = record {
  number = length-append part' rest' ∙ omega (arith, front.number, back.number, ap length is, length-append part rest);
  each = λ k d low.
      elim (cases_lt k (length part)) [
        | inl early ↦
            subst (λ x. R (base + k) x (get_or (part' ++ rest') k d)) (sym (ap (λ l. get_or l k d) is ∙ get_or_append_left part rest d k early))
            (subst (R (base + k) (get_or part k d)) (sym (get_or_append_left part' rest' d k (omega (arith, early, front.number)))) (front.each k d early))
        | inr late ↦
            let i = k - length part in
            let low_i : i < length rest = omega (arith, low, late, ap length is, length-append part rest) in
            let was : get_or all k d ≡ get_or rest i d = ap (λ l. get_or l k d) is ∙ get_or-append_right part rest (length part) k d refl late in
            let now : get_or (part' ++ rest') k d ≡ get_or rest' i d = get_or-append_right part' rest' (length part) k d front.number late in
            subst (λ x. R (base + k) x (get_or (part' ++ rest') k d)) (sym was)
            (subst (R (base + k) (get_or rest i d)) (sym now)
            (subst (λ n. R n (get_or rest i d) (get_or rest' i d)) {x = next + i} (omega (arith, at, late)) (back.each i d low_i)))
      ];
}
