-- When nothing is refused: of a number, of two lists of refusals, of each element of a list that is made number by
-- number.
use Rattle.std.proofs.Common.{◌≡◌, ℕ, zero, suc, ◌+◌, ◌<◌, ◌≤◌, List, [], ◌∷◌, ◌++◌, length, map, refl, arith}
use Rattle.std.proofs.lemmas.Bool.{le-ltb}
use Rattle.std.specs.List.{range_with_len}
use Rattle.plant_model.specs.declared.error.PlantError.{PlantError}
use Rattle.plant_model.specs.Refusals.{each_from, each, above, too_few, larger, empty}

-- no refusals and no more are none
pub append-none : {X : Type 0} (xs ys : List X) → xs ≡ [] → ys ≡ [] → xs ++ ys ≡ []
append-none xs ys none_left none_right = rw (none_left, none_right) refl

pub above-none : (place : List ℕ) (limit n : ℕ) → n ≤ limit → above place limit n ≡ []
above-none place limit n le = rw (le-ltb limit n le) refl

pub too_few-none : (place : List ℕ) (cards stock : ℕ) → stock ≤ cards → too_few place cards stock ≡ []
too_few-none place cards stock le = rw (le-ltb cards stock le) refl

pub larger-none : (what : List ℕ) (limit n : ℕ) → n ≤ limit → larger what limit n ≡ []
larger-none what limit n le = rw (le-ltb limit n le) refl

pub empty-none : {X : Type 0} (place : List ℕ) (xs : List X) → 0 < length xs → empty place xs ≡ []
empty-none place [] some = absurd (omega arith)
empty-none place (x ∷ xs) some = refl

each_from-none : {X : Type 0} (f : ℕ → X → List PlantError) (g : ℕ → X) (k a n : ℕ) → ((i j l : ℕ) → i < n → k + i ≡ j → a + i ≡ l → f j (g l) ≡ []) → each_from f k (map g (range_with_len a n)) ≡ []
each_from-none f g k a zero h = refl
each_from-none f g k a (suc n) h =
    append-none (f k (g a)) _ (h 0 k a (omega arith) (omega arith) (omega arith))
    (each_from-none f g (k + 1) (a + 1) n (λ i j l below is at. h (suc i) j l (omega arith) (omega arith) (omega arith)))

-- element i of the list is what `g` gives for a + i
pub each-none : {X : Type 0} (f : ℕ → X → List PlantError) (g : ℕ → X) (a n : ℕ) → ((i l : ℕ) → i < n → a + i ≡ l → f i (g l) ≡ []) → each f (map g (range_with_len a n)) ≡ []
each-none f g a n h =
    each_from-none f g 0 a n (λ i j l below is at. let e : i ≡ j = omega arith in rw (← e) (h i l below at))
