-- Lists of views, of which one changes or is added, and prefixes of lists.
use Rattle.std.proofs.Common.{◌≡◌, ℕ, zero, suc, ◌+◌, ◌<◌, ◌≤◌, ◌≢◌, ◌⊎◌, ⊎_elim, Bool, true, false, List, [], ◌∷◌, ◌++◌, length, get_or, set, subst, sym, refl, ap, ◌∙◌, arith, append_assoc, length-append}
use mathlib.Core.Option.{some, some-injective, some-ne-none}
use mathlib.Core.List.{IsPrefix}
use lib.ListN.{get_elem?}
use Rattle.atomic_table.proofs.Lists.{at_set, at_snoc}
use Rattle.room_ring.specs.declared.view.View.{View}
use Rattle.room_ring.specs.declared.view.Role.{Role}
use Rattle.room_ring.specs.declared.view.Role.TheVariants.{Putter, Taker, Note, Spent}
use Rattle.room_ring.specs.Rule.{number, is_taker, takers, Each}

pub taker_of : (r : Role) → is_taker r ≡ true → r ≡ Taker
taker_of Putter e = absurd (Rattle.std.proofs.lemmas.Bool.false≢true e)
taker_of Taker e = refl
taker_of Note e = absurd (Rattle.std.proofs.lemmas.Bool.false≢true e)
taker_of Spent e = absurd (Rattle.std.proofs.lemmas.Bool.false≢true e)

weighs : (v w : View) → v ≡ w → number (is_taker v.role) ≡ number (is_taker w.role)
weighs v w e = ap (λ (u : View). number (is_taker u.role)) e

pub takers-set : (l : List View) (k : ℕ) (v w : View) → get_elem? l k ≡ some v → is_taker w.role ≡ is_taker v.role → takers (set l k w) ≡ takers l
takers-set [] k v w at same = absurd (some-ne-none v (sym at))
takers-set (x ∷ xs) zero v w at same = let e = weighs x v (some-injective x v at) in let s : number (is_taker w.role) ≡ number (is_taker v.role) = ap number same in omega arith
takers-set (x ∷ xs) (suc k) v w at same = ap (λ (n : ℕ). number (is_taker x.role) + n) (takers-set xs k v w at same)

pub takers-add : (l : List View) (v : View) → takers (l ++ v ∷ []) ≡ takers l + number (is_taker v.role)
takers-add [] v = omega arith
takers-add (x ∷ xs) v = let e = takers-add xs v in omega arith

one : (v : View) → v.role ≡ Taker → number (is_taker v.role) ≡ 1
one v e = ap (λ r. number (is_taker r)) e

pub takers_at : (l : List View) (k : ℕ) (v : View) → get_elem? l k ≡ some v → v.role ≡ Taker → 1 ≤ takers l
takers_at [] k v at is = absurd (some-ne-none v (sym at))
takers_at (x ∷ xs) zero v at is = let e = weighs x v (some-injective x v at) in let o = one v is in omega arith
takers_at (x ∷ xs) (suc k) v at is = let e = takers_at xs k v at is in omega arith

-- where there is at most one taker, two seats of takers are one
pub one_seat : (l : List View) (j k : ℕ) (v w : View) → takers l ≤ 1 → get_elem? l j ≡ some v → get_elem? l k ≡ some w → v.role ≡ Taker → w.role ≡ Taker → j ≡ k
one_seat [] j k v w most at at' is is' = absurd (some-ne-none v (sym at))
one_seat (x ∷ xs) zero zero v w most at at' is is' = refl
one_seat (x ∷ xs) zero (suc k) v w most at at' is is' = let e = weighs x v (some-injective x v at) in let o = one v is in let m = takers_at xs k w at' is' in absurd (omega arith)
one_seat (x ∷ xs) (suc j) zero v w most at at' is is' = let e = weighs x w (some-injective x w at') in let o = one w is' in let m = takers_at xs j v at is in absurd (omega arith)
one_seat (x ∷ xs) (suc j) (suc k) v w most at at' is is' = ap suc (one_seat xs j k v w (omega arith) at at' is is')

-- of views of which none is a taker's, or some is
pub data Takes (l : List View) : Type 0 where
  none : takers l ≡ 0 → Takes l
  there : (k : ℕ) (v : View) → get_elem? l k ≡ some v → v.role ≡ Taker → Takes l

more_takes : (x : View) (xs : List View) (b : Bool) → is_taker x.role ≡ b → Takes xs → Takes (x ∷ xs)
more_takes x xs true e t = there 0 x refl (taker_of x.role e)
more_takes x xs false e (none z) = none (let n : number (is_taker x.role) ≡ 0 = ap number e in omega arith)
more_takes x xs false e (there k v at is) = there (suc k) v at is

pub takes : (l : List View) → Takes l
takes [] = none refl
takes (x ∷ xs) = more_takes x xs (is_taker x.role) refl (takes xs)

-- one view changes
pub each-set : (P : View → Type 0) (l : List View) (k : ℕ) (w : View) → ((j : ℕ) (v : View) → j ≢ k → get_elem? l j ≡ some v → P v) → P w → Each P (set l k w)
each-set P l k w other here j v at = ⊎_elim (λ t. subst P t.1 here) (λ t. other j v t.0 t.1) (at_set l k j w v at)

-- one view is added
pub each-add : (P : View → Type 0) (l : List View) (w : View) → Each P l → P w → Each P (l ++ w ∷ [])
each-add P l w all here j v at = ⊎_elim (λ t. all j v t) (λ t. subst P t here) (at_snoc l w v j at)

pub prefix-none : (ys : List ℕ) → IsPrefix [] ys
prefix-none ys = (ys, refl)

pub prefix-self : (ys : List ℕ) → IsPrefix ys ys
prefix-self ys = ([], Rattle.std.proofs.lemmas.List.append-nil ys)

-- more is put behind
pub prefix-longer : (xs ys zs : List ℕ) → IsPrefix xs ys → IsPrefix xs (ys ++ zs)
prefix-longer xs ys zs p = (p.0 ++ zs, sym (append_assoc xs p.0 zs) ∙ ap (λ l. l ++ zs) p.1)

pub prefix-length : (xs ys : List ℕ) → IsPrefix xs ys → length xs ≤ length ys
prefix-length xs ys p = let e = ap length p.1 in omega (arith, length-append xs p.0)

-- the next item is taken
pub prefix-next : (xs ys : List ℕ) (y : ℕ) → IsPrefix xs ys → length xs < length ys → y ≡ get_or ys (length xs) 0 → IsPrefix (xs ++ y ∷ []) ys
prefix-next [] [] y p less e = absurd (omega arith)
prefix-next [] (z ∷ ys) y p less e = (ys, ap (λ u. u ∷ ys) e)
prefix-next (x ∷ xs) [] y p less e = absurd (omega arith)
prefix-next (x ∷ xs) (z ∷ ys) y p less e =
    let head_is : x ≡ z = ap (λ l. get_or l 0 0) p.1 in
    let tail_is : xs ++ p.0 ≡ ys = ap (λ l. Rattle.std.proofs.Common.drop 1 l) p.1 in
    let q = prefix-next xs ys y (p.0, tail_is) (omega arith) e in
    (q.0, λ i. head_is i ∷ q.1 i)
