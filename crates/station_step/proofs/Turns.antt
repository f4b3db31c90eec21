-- Elements of a list that change one after the other.
use Rattle.std.proofs.Common.{◌≡◌, ◌≢◌, ℕ, ◌+◌, ◌<◌, ◌++◌, List, length, take, drop, get_or, set, sym, ap, ◌∙◌, subst, arith, ⊎_elim, get_or-set_same, get_or-set_other}
use Rattle.std.specs.Prelude.{Vec}
use Rattle.std.specs.declared.alloc.Global.{Global}
use Rattle.std.proofs.Math.Seq.{take-append_seam}
use Rattle.std.proofs.lemmas.Bool.{cases_eq}

-- what holds of each element below k, and of the new one at k, then holds of each below k + 1
pub below-set : {A : Type 0} (none : A) (Holds : ℕ → A → Type 0) (k : ℕ) (xs : List A) (x : A) → k < length xs → ((j : ℕ) → j < k → Holds j (get_or xs j none)) → Holds k x → (j : ℕ) → j < k + 1 → Holds j (get_or (set xs k x) j none)
below-set none Holds k xs x low earlier here j lt =
    ⊎_elim
    (λ (e : j ≡ k).
    subst (λ (n : ℕ). Holds n (get_or (set xs k x) n none)) (sym e)
    (subst (Holds k) (sym (get_or-set_same xs k x none low)) here))
    (λ (ne : j ≢ k).
    subst (Holds j) (sym (get_or-set_other xs k j x none ne)) (earlier j (omega arith)))
    (cases_eq j k)

-- what the list is where a walk over all of it gives it back
pub given_back : {A : Type 0} (count : ℕ) (xs behind : List A) → count ≡ length xs → take count (xs ++ behind) ≡ xs
given_back count xs behind all = ap (λ n. take n (xs ++ behind)) all ∙ take-append_seam xs behind

-- the elements of a vector as a walk over all of it leaves them, where these stand there at its end
abbrev pub walked : {A : Type 0} → Vec A Global → List A → List A
walked v items = take v.len (items ++ drop (length items) v.items)

pub walked-is : {A : Type 0} (v : Vec A Global) (items : List A) → length items ≡ length v.items → walked v items ≡ items
walked-is v items same = given_back v.len items (drop (length items) v.items) (omega (arith, same, v.ok.0))
