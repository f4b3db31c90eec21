-- What it means that a list of refusals is empty.
use Rattle.std.proofs.Common.{◌≡◌, ℕ, zero, suc, ◌+◌, ◌<◌, ◌≤◌, Bool, true, false, ltb, List, [], ◌∷◌, ◌++◌, length, get_or, refl, arith}
use Rattle.std.proofs.lemmas.Bool.{ltb-false}
use Rattle.plant_model.specs.declared.error.PlantError.{PlantError}
use Rattle.plant_model.specs.Refusals.{refuse_if, each_from, each, above, larger}

-- the parts of an empty list are empty
pub append-nil_left : {X : Type 0} (xs ys : List X) → xs ++ ys ≡ [] → xs ≡ []
append-nil_left [] ys h = refl
append-nil_left (x ∷ xs) ys h = cc

pub append-nil_right : {X : Type 0} (xs ys : List X) → xs ++ ys ≡ [] → ys ≡ []
append-nil_right [] ys h = h
append-nil_right (x ∷ xs) ys h = cc

-- five lists that are empty together
pub five-empty : {X : Type 0} (a b c d e : List X) → a ++ (b ++ (c ++ (d ++ e))) ≡ [] → (a ≡ []) × (b ≡ []) × (c ≡ []) × (d ≡ []) × (e ≡ [])
five-empty [] [] [] [] e h = (refl, refl, refl, refl, h)
five-empty [] [] [] (x ∷ d) e h = cc
five-empty [] [] (x ∷ c) d e h = cc
five-empty [] (x ∷ b) c d e h = cc
five-empty (x ∷ a) b c d e h = cc

-- six lists without an element
pub record AreNil {X : Type 0} (a b c d e f : List X) : Type 0 where
  pub first : a ≡ []
  pub second : b ≡ []
  pub third : c ≡ []
  pub fourth : d ≡ []
  pub fifth : e ≡ []
  pub sixth : f ≡ []

pub AreNil-append : {X : Type 0} (a b c d e f : List X) → a ++ (b ++ (c ++ (d ++ (e ++ f)))) ≡ [] → AreNil a b c d e f
AreNil-append a b c d e f h =
    let q = five-empty a b c d (e ++ f) h in
    record { first = q.0; second = q.1; third = q.2; fourth = q.3; fifth = append-nil_left e f q.4; sixth = append-nil_right e f q.4 }

-- what is not refused has not passed the test
pub refuse_if-none : (test : Bool) (e : PlantError) → refuse_if test e ≡ [] → test ≡ false
refuse_if-none true e h = cc
refuse_if-none false e h = refl

-- no number is above a limit that was not passed
pub above-none : (place : List ℕ) (limit n : ℕ) → above place limit n ≡ [] → n ≤ limit
above-none place limit n h = ltb-false limit n (refuse_if-none (ltb limit n) _ h)

pub larger-none : (what : List ℕ) (limit n : ℕ) → larger what limit n ≡ [] → n ≤ limit
larger-none what limit n h = ltb-false limit n (refuse_if-none (ltb limit n) _ h)

each_from-none : {X : Type 0} (f : ℕ → X → List PlantError) (k : ℕ) (xs : List X) (i j : ℕ) (d : X) → i < length xs → k + i ≡ j → each_from f k xs ≡ [] → f j (get_or xs i d) ≡ []
each_from-none f k [] i j d below is h = absurd (omega arith)
each_from-none f k (x ∷ xs) zero j d below is h = let e : k ≡ j = omega arith in rw (← e) (append-nil_left (f k x) _ h)
each_from-none f k (x ∷ xs) (suc i) j d below is h =
    each_from-none f (k + 1) xs i j d (omega arith) (omega arith) (append-nil_right (f k x) _ h)

-- where nothing is refused of all, nothing is refused of one
pub each-none : {X : Type 0} (f : ℕ → X → List PlantError) (xs : List X) (i : ℕ) (d : X) → i < length xs → each f xs ≡ [] → f i (get_or xs i d) ≡ []
each-none f xs i d below h = each_from-none f 0 xs i i d below (omega arith) h
