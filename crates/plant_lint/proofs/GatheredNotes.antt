-- What functions add to a text: one after the other, and in a loop that gathers what a function gives for each of a
-- list.
use Rattle.std.proofs.Common.{◌≡◌, refl, ℕ, ◌+◌, ◌<◌, ◌≤◌, List, ◌++◌, length, get_or, drop, Result, Ok, Err, OnOk, sym, ap, ◌∙◌, append-nil, append_assoc}
use Rattle.std.specs.Prelude.{⊤}
use Rattle.std.proofs.lemmas.List.{drop_all, get_or_default}
use Rattle.toml.specs.Data.{Data}
use Rattle.toml.specs.View.{view}
use Rattle.toml.specs.declared.value.Value.{Value}
use Rattle.plant_check.proofs.CollectedRefusals.{one_more}
use Rattle.plant_keys.specs.Code.{views}
use Rattle.plant_keys.specs.Faults.{all_from, all_of}
use Rattle.plant_keys.proofs.FaultLists.{all_of_views}

-- what is given for the elements below number i is added
pub record Gathered {X A : Type 0} (f : ℕ → X → List A) (xs : List X) (i : ℕ) (old new : List A) : Type 0 where
  pub rest : old ++ all_of f xs ≡ new ++ all_from f i (drop i xs)

-- nothing is added yet
pub gathered_none : {X A : Type 0} (f : ℕ → X → List A) (xs : List X) (old : List A) → Gathered f xs 0 old old
gathered_none f xs old = record { rest = refl }

-- what is given for the next element is added too
pub gathers : {X A : Type 0} (f : ℕ → X → List A) (xs : List X) (i : ℕ) (x : X) (old mid new : List A) → Gathered f xs i old mid → i < length xs → x ≡ get_or xs i x → new ≡ mid ++ f i x → Gathered f xs (i + 1) old new
gathers f xs i x old mid new h below is here =
    record { rest = one_more (all_from f) xs i x (f i x) (all_of f xs) old mid new (λ rest. refl) h.rest below is here }

-- the same, of a list whose elements are read with a default
pub gathers_read : {X A : Type 0} (f : ℕ → X → List A) (xs : List X) (i : ℕ) (d : X) (old mid new : List A) → Gathered f xs i old mid → i < length xs → new ≡ mid ++ f i (get_or xs i d) → Gathered f xs (i + 1) old new
gathers_read f xs i d old mid new h below here =
    gathers f xs i (get_or xs i d) old mid new h below (get_or_default xs i d _ below) here

-- what is given for all is added
pub gathered_all : {X A : Type 0} (f : ℕ → X → List A) (xs : List X) (i : ℕ) (old new : List A) → Gathered f xs i old new → length xs ≤ i → new ≡ old ++ all_of f xs
gathered_all f xs i old new h past =
    sym (append-nil new) ∙ ap (λ left. new ++ all_from f i left) (sym (drop_all i xs past)) ∙ sym h.rest

-- what is added after something else
pub then_more : {A E : Type 0} (r : Result ⊤ E) (old mid new xs ys : List A) → mid ≡ old ++ xs → OnOk r (new ≡ mid ++ ys) → OnOk r (new ≡ old ++ (xs ++ ys))
then_more (Ok v) old mid new xs ys before here = here ∙ ap (λ l. l ++ ys) before ∙ append_assoc old xs ys
then_more (Err e) old mid new xs ys before here = here

pub then_two : {A E : Type 0} (r : Result ⊤ E) (old mid late new xs ys zs : List A) → mid ≡ old ++ xs → late ≡ mid ++ ys → OnOk r (new ≡ late ++ zs) → OnOk r (new ≡ old ++ (xs ++ (ys ++ zs)))
then_two r old mid late new xs ys zs before next here =
    then_more r old mid new xs (ys ++ zs) before (then_more r mid late new ys zs next here)

-- what is given for each row of a list
pub all_of_rows : {A : Type 0} (f : ℕ → Data → List A) (ds : List Data) (rows : List Value) → views rows ≡ ds → all_of f ds ≡ all_of (λ i s. f i (view s)) rows
all_of_rows f ds rows are = rw (← are) (all_of_views f rows)
