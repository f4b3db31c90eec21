-- A machine names a column exactly where a column is used.
use Rattle.std.proofs.Common.{◌≡◌, ℕ, zero, suc, ◌+◌, ◌<◌, ◌≤◌, Bool, true, false, ◌||◌, ◌==◌, List, [], ◌∷◌, map, filter, if◌then◌else◌, is_some, Some, None, refl, ap, sym, ◌∙◌, codes, arith}
use Rattle.std.specs.List.{list_any, range_with_len}
use Rattle.std.proofs.lemmas.Bool.{and_parts, leb-true, eqb-false}
use Rattle.line_base.specs.Text.{is_between}
use Rattle.line_base.specs.declared.limits.TheConstants.{MAX_COLUMN}
use Rattle.toml.specs.Data.{Data}
use Rattle.plant_file.specs.declared.draft.DraftTimes.TheVariants.{Column, Fixed, Each}
use Rattle.plant_keys.specs.Readers.{is_filled}
use Rattle.plant_file.specs.Draft.{uses, is_used, columns_of}
use Rattle.plant_keys.specs.Readers.{has, tables_at, stage_names}
use Rattle.plant_keys.specs.Keys.{stage_has_column, has_column}
use Rattle.plant_file.specs.Reading.{machine_of, stage_of, draft_of, times_file_of}
use Rattle.plant_file.proofs.SoundParts.{number_at-between}

is_filled-filter : {X : Type 0} (p : X → Bool) (xs : List X) → is_filled (filter p xs) ≡ list_any p xs
is_filled-filter p [] = refl
is_filled-filter p (x ∷ xs) =
    elim (p x) as (λ b. is_filled (if b then x ∷ filter p xs else filter p xs) ≡ (b || list_any p xs))
    [ true ↦ refl | false ↦ is_filled-filter p xs ]

pub list_any-same : {X : Type 0} (p q : X → Bool) → ((x : X) → p x ≡ q x) → (xs : List X) → list_any p xs ≡ list_any q xs
list_any-same p q h [] = refl
list_any-same p q h (x ∷ xs) = rw (h x, list_any-same p q h xs) refl

list_any-made : {X Y : Type 0} (p : Y → Bool) (f : X → Y) (xs : List X) → list_any p (map f xs) ≡ list_any (λ x. p (f x)) xs
list_any-made p f [] = refl
list_any-made p f (x ∷ xs) = ap (λ rest. p (f x) || rest) (list_any-made p f xs)

none_any : {X : Type 0} (xs : List X) → list_any (λ _. false) xs ≡ false
none_any [] = refl
none_any (x ∷ xs) = none_any xs

or_any : {X : Type 0} (p q : X → Bool) (xs : List X) → list_any (λ x. p x || q x) xs ≡ (list_any p xs || list_any q xs)
or_any p q [] = refl
or_any p q (x ∷ xs) = rw (or_any p q xs) (shuffled (p x) (q x) (list_any p xs) (list_any q xs))
  where
    shuffled : (a b c d : Bool) → (a || b || (c || d)) ≡ (a || c || (b || d))
    shuffled true b c d = refl
    shuffled false true true d = refl
    shuffled false true false d = refl
    shuffled false false c d = refl

-- one of the first passes with one of the second, either way round
any_swap : {X Y : Type 0} (q : X → Y → Bool) (xs : List X) (ys : List Y) → list_any (λ x. list_any (q x) ys) xs ≡ list_any (λ y. list_any (λ x. q x y) xs) ys
any_swap q xs [] = none_any xs
any_swap q xs (y ∷ ys) =
    or_any (λ x. q x y) (λ x. list_any (q x) ys) xs ∙ ap (λ rest. list_any (λ x. q x y) xs || rest) (any_swap q xs ys)

-- a number is among those of a range
in_range : (n a len : ℕ) → a ≤ n → n < a + len → list_any (λ c. n == c) (range_with_len a len) ≡ true
in_range n a zero low high = absurd (omega arith)
in_range n a (suc len) low high =
    elim (n == a) as (λ b. (n == a) ≡ b → (b || list_any (λ c. n == c) (range_with_len (a + 1) len)) ≡ true) [
      | true ↦ λ is. refl
      | false ↦ λ is. in_range n (a + 1) len (let ne = eqb-false n a is in omega (arith, ne)) (omega arith)
    ] refl

column_in_range : (n : ℕ) → is_between 1 MAX_COLUMN n ≡ true → list_any (λ c. n == c) (range_with_len 1 MAX_COLUMN) ≡ true
column_in_range n h =
    let parts = and_parts _ _ h in
    in_range n 1 MAX_COLUMN (leb-true 1 n parts.0) (let high = leb-true n MAX_COLUMN parts.1 in omega (arith, high))

times_use : (a b : Bool) (column time : ℕ) (times : List ℕ) → is_between 1 MAX_COLUMN column ≡ true → list_any (λ c. uses c (if a then Column column else if b then Fixed time else Each times)) (range_with_len 1 MAX_COLUMN) ≡ a
times_use true b column time times h = column_in_range column h
times_use false true column time times h = none_any (range_with_len 1 MAX_COLUMN)
times_use false false column time times h = none_any (range_with_len 1 MAX_COLUMN)

machine_uses : (m : Data) → list_any (λ c. uses c (machine_of m).times) (range_with_len 1 MAX_COLUMN) ≡ has (codes "column") m
machine_uses m =
    times_use (has (codes "column") m) (has (codes "time") m) _ _ _
    (number_at-between 1 MAX_COLUMN 1 (codes "column") m refl)

stage_uses : (names : List (List ℕ)) (s : Data) → list_any (λ c. list_any (λ m. uses c m.times) (stage_of names s).machines) (range_with_len 1 MAX_COLUMN) ≡ stage_has_column s
stage_uses names s =
    let columns = range_with_len 1 MAX_COLUMN in
    let machines = tables_at (codes "machine") s in
    list_any-same _ _ (λ c. list_any-made (λ m. uses c m.times) machine_of machines) columns
    ∙ any_swap (λ c m. uses c (machine_of m).times) columns machines
    ∙ list_any-same _ _ machine_uses machines

any_used : (top : Data) → list_any (is_used (draft_of top)) (range_with_len 1 MAX_COLUMN) ≡ has_column top
any_used top =
    let columns = range_with_len 1 MAX_COLUMN in
    let stages = tables_at (codes "stage") top in
    let names = stage_names top in
    list_any-same _ _ (λ c. list_any-made (λ s. list_any (λ m. uses c m.times) s.machines) (stage_of names) stages) columns
    ∙ any_swap (λ c s. list_any (λ m. uses c m.times) (stage_of names s).machines) columns stages
    ∙ list_any-same _ _ (stage_uses names) stages

some_if : {X : Type 0} (b : Bool) (x : X) → is_some (if b then Some x else None) ≡ b
some_if true x = refl
some_if false x = refl

-- a tree names a times file exactly where it uses a column
pub times_file-columns : (top : Data) → is_some (times_file_of top) ≡ is_filled (columns_of (draft_of top))
unfolding columns_of
times_file-columns top =
    some_if (has_column top) _ ∙ sym (is_filled-filter (is_used (draft_of top)) (range_with_len 1 MAX_COLUMN) ∙ any_used top)
