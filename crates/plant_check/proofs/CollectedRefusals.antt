-- One more step of a loop that adds what is refused of each element of a list.
use Rattle.std.proofs.Common.{◌≡◌, refl, ℕ, suc, ◌+◌, ◌<◌, ◌≤◌, List, ◌∷◌, ◌++◌, length, get_or, drop, sym, ap, ◌∙◌, add-one, append_assoc, append-nil, Result, Ok, Err, OnOk}
use Rattle.std.specs.Prelude.{⊤}
use Rattle.std.proofs.lemmas.List.{drop_all, get_or_default}
use Rattle.std.proofs.Math.Seq.{drop-cons}
use Rattle.plant_model.specs.declared.error.PlantError.{PlantError}
use Rattle.plant_model.specs.Refusals.{each_from, each}

-- what is refused of the elements below number i is added
pub record Collected {X : Type 0} (f : ℕ → X → List PlantError) (xs : List X) (i : ℕ) (old new : List PlantError)
    : Type 0 where
  pub rest : old ++ each f xs ≡ new ++ each_from f i (drop i xs)

-- the elements from number i on: element i, and those after it
drop-here : {X : Type 0} (xs : List X) (i : ℕ) (x : X) → i < length xs → x ≡ get_or xs i x → drop i xs ≡ x ∷ drop (i + 1) xs
drop-here xs i x below is = rw (drop-cons xs i x below, add-one) (ap (λ y. y ∷ drop (suc i) xs) (sym is))

-- where what is added from number i on begins with what is added for element i, what is added for those after it is
-- left
pub one_more : {X A : Type 0} (from : ℕ → List X → List A) (xs : List X) (i : ℕ) (x : X) (here all old mid new : List A) → ((rest : List X) → from i (x ∷ rest) ≡ here ++ from (i + 1) rest) → old ++ all ≡ mid ++ from i (drop i xs) → i < length xs → x ≡ get_or xs i x → new ≡ mid ++ here → old ++ all ≡ new ++ from (i + 1) (drop (i + 1) xs)
one_more from xs i x here all old mid new step before below is added =
    before
    ∙ ap (λ left. mid ++ from i left) (drop-here xs i x below is)
    ∙ ap (λ items. mid ++ items) (step (drop (i + 1) xs))
    ∙ sym (append_assoc mid here (from (i + 1) (drop (i + 1) xs)))
    ∙ ap (λ start. start ++ from (i + 1) (drop (i + 1) xs)) (sym added)

-- what is refused of the next element is added too
pub collects : {X : Type 0} (f : ℕ → X → List PlantError) (xs : List X) (i : ℕ) (x : X) (old mid new : List PlantError) → Collected f xs i old mid → i < length xs → x ≡ get_or xs i x → new ≡ mid ++ f i x → Collected f xs (i + 1) old new
collects f xs i x old mid new h below is here =
    record { rest = one_more (each_from f) xs i x (f i x) (each f xs) old mid new (λ rest. refl) h.rest below is here }

-- nothing is added yet
pub collected_none : {X : Type 0} (f : ℕ → X → List PlantError) (xs : List X) (old : List PlantError) → Collected f xs 0 old old
collected_none f xs old = record { rest = refl }

-- what is refused of all is added
pub collected_all : {X : Type 0} (f : ℕ → X → List PlantError) (xs : List X) (i : ℕ) (old new : List PlantError) → Collected f xs i old new → length xs ≤ i → new ≡ old ++ each f xs
collected_all f xs i old new h past =
    sym (append-nil new) ∙ ap (λ left. new ++ each_from f i left) (sym (drop_all i xs past)) ∙ sym h.rest

-- the same, of a list whose elements are read with a default
pub collects_read : {X : Type 0} (f : ℕ → X → List PlantError) (xs : List X) (i : ℕ) (d : X) (old mid new : List PlantError) → Collected f xs i old mid → i < length xs → new ≡ mid ++ f i (get_or xs i d) → Collected f xs (i + 1) old new
collects_read f xs i d old mid new h below here =
    collects f xs i (get_or xs i d) old mid new h below (get_or_default xs i d _ below) here

-- what is added after two others
pub then_two : {A E : Type 0} (r : Result ⊤ E) (old mid late new xs ys zs : List A) → mid ≡ old ++ xs → late ≡ mid ++ ys → OnOk r (new ≡ late ++ zs) → OnOk r (new ≡ old ++ ((xs ++ ys) ++ zs))
then_two (Ok v) old mid late new xs ys zs first next last =
    last
    ∙ ap (λ l. l ++ zs) (next ∙ ap (λ l. l ++ ys) first ∙ append_assoc old xs ys)
    ∙ append_assoc old (xs ++ ys) zs
then_two (Err e) old mid late new xs ys zs first next last = last
