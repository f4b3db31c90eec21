-- One more step of a loop that finds what a function gives for each of a list.
use Rattle.std.proofs.Common.{◌≡◌, refl, ℕ, suc, ◌+◌, ◌<◌, ◌≤◌, List, [], ◌∷◌, ◌++◌, length, get_or, drop, sym, ap, ◌∙◌, add-one}
use Rattle.std.proofs.lemmas.List.{drop_all, get_or_default}
use Rattle.std.proofs.Math.Seq.{drop-cons}
use Rattle.plant_keys.specs.declared.fault.Fault.{Fault}
use Rattle.plant_keys.specs.Faults.{all_from, all_of}
use Rattle.plant_keys.specs.Found.{Found, Finds}
use Rattle.plant_keys.proofs.FoundFaults.{Left, left_none, left_more, left_all, left_done}

-- what is given for the elements below number i is found
pub record Gathered {X : Type 0} (f : ℕ → X → List Fault) (xs : List X) (i : ℕ) (old new : Found) : Type 0 where
  pub left : Left old new (all_of f xs) (all_from f i (drop i xs))

-- nothing is found yet
pub gathered_none : {X : Type 0} (f : ℕ → X → List Fault) (xs : List X) (old : Found) → Gathered f xs 0 old old
gathered_none f xs old = record { left = left_none old (all_of f xs) (all_from f 0 (drop 0 xs)) refl }

-- the elements from number i on: element i, and those after it
drop-here : {X : Type 0} (xs : List X) (i : ℕ) (x : X) → i < length xs → x ≡ get_or xs i x → drop i xs ≡ x ∷ drop (i + 1) xs
drop-here xs i x below is = rw (drop-cons xs i x below, add-one) (ap (λ y. y ∷ drop (suc i) xs) (sym is))

-- what is given for the next element is found too
pub gathers : {X : Type 0} (f : ℕ → X → List Fault) (xs : List X) (i : ℕ) (x : X) (old mid new : Found) → Gathered f xs i old mid → i < length xs → x ≡ get_or xs i x → Finds mid new (f i x) → Gathered f xs (i + 1) old new
gathers f xs i x old mid new h below is here =
    record {
      left = left_more old mid new (all_of f xs) (all_from f i (drop i xs)) (f i x) (all_from f (i + 1) (drop (i + 1) xs)) h.left
          (ap (all_from f i) (drop-here xs i x below is)) here;
    }

-- the same, of a list whose elements are read with a default
pub gathers_read : {X : Type 0} (f : ℕ → X → List Fault) (xs : List X) (i : ℕ) (d : X) (old mid new : Found) → Gathered f xs i old mid → i < length xs → Finds mid new (f i (get_or xs i d)) → Gathered f xs (i + 1) old new
gathers_read f xs i d old mid new h below here =
    gathers f xs i (get_or xs i d) old mid new h below (get_or_default xs i d _ below) here

-- what is given for all is found
pub gathered_all : {X : Type 0} (f : ℕ → X → List Fault) (xs : List X) (i : ℕ) (old new : Found) → Gathered f xs i old new → length xs ≤ i → Finds old new (all_of f xs)
gathered_all f xs i old new h past = left_all old new _ _ h.left (ap (all_from f i) (drop_all i xs past))

-- the same, where nothing more is looked for
pub gathered_done : {X : Type 0} (f : ℕ → X → List Fault) (xs : List X) (i : ℕ) (old new : Found) → Gathered f xs i old new → ((faults : List Fault) → Finds new new faults) → Finds old new (all_of f xs)
gathered_done f xs i old new h done = left_done old new _ _ h.left done
