-- The columns that machines of a draft use ascend, and stand within their limits.
use Rattle.std.proofs.Common.{◌≡◌, ℕ, zero, suc, ◌+◌, ◌<◌, ◌≤◌, ◌≢◌, Bool, false, true, List, [], ◌∷◌, ◌++◌, add-zero, add-one, All, Option, Some, None, is_some, refl, arith, sym, ap, ◌∙◌, append-nil}
use Rattle.std.proofs.lemmas.Bool.{false≢true, true≢false}
use Rattle.std.specs.List.{filter, range_with_len}
use Rattle.std.specs.List.Sorted.{IsStrictlyIncreasing}
use Rattle.std.proofs.lemmas.List.Elements.{All-filter, filter-append}
use Rattle.std.proofs.lemmas.List.FromFn.{length-range_with_len, get_or-range_with_len}
use Rattle.std.proofs.lemmas.List.Kept.{IsStrictlyIncreasing-filter}
use Rattle.line_base.specs.declared.limits.TheConstants.{MAX_COLUMN}
use Rattle.plant_file.specs.declared.draft.DraftPlant.{DraftPlant}
use Rattle.plant_keys.specs.Readers.{is_filled}
use Rattle.plant_file.specs.Draft.{columns_of, is_used}

range-ascends : (a n : ℕ) → IsStrictlyIncreasing (range_with_len a n)
range-ascends a n k h =
    let below : k + 1 < n = let e = length-range_with_len a n in omega (arith, e, h) in
    let here : k < n = omega arith in
    rw (get_or-range_with_len a n k 0 here, get_or-range_with_len a n (k + 1) 0 below) (omega arith)

range-within : (a n : ℕ) → All (λ k. (a ≤ k) × (k < a + n)) (range_with_len a n)
range-within a n i d h =
    let below : i < n = let e = length-range_with_len a n in omega (arith, e, h) in
    rw (get_or-range_with_len a n i d below) (omega arith, omega arith)

pub columns_of-ascends : (d : DraftPlant) → IsStrictlyIncreasing (columns_of d)
unfolding columns_of
columns_of-ascends d =
    IsStrictlyIncreasing-filter (is_used d) (range_with_len 1 MAX_COLUMN) (range-ascends 1 MAX_COLUMN)

columns-range : All (λ k. (1 ≤ k) × (k ≤ MAX_COLUMN)) (range_with_len 1 MAX_COLUMN)
columns-range i d h =
    let in_range = range-within 1 MAX_COLUMN i d h in (in_range.0, omega (arith, in_range.1))

pub columns_of-within : (d : DraftPlant) → All (λ k. (1 ≤ k) × (k ≤ MAX_COLUMN)) (columns_of d)
unfolding columns_of
columns_of-within d =
    All-filter (is_used d) (λ k. (1 ≤ k) × (k ≤ MAX_COLUMN)) (range_with_len 1 MAX_COLUMN) columns-range

-- there is a file exactly where there are columns
pub nil-where_none : {X Y : Type 0} (file : Option X) (xs : List Y) → is_some file ≡ is_filled xs → file ≡ None → xs ≡ []
nil-where_none None [] e h = refl
nil-where_none None (x ∷ xs) e h = absurd (false≢true e)
nil-where_none (Some f) xs e h = cc

pub filled-where_some : {X Y : Type 0} (file : Option X) (f : X) (xs : List Y) → is_some file ≡ is_filled xs → file ≡ Some f → xs ≢ []
filled-where_some file f [] e h none = let e = rw h at e in absurd (true≢false e)
filled-where_some file f (x ∷ xs) e h none = cc

-- n numbers from a on, and the next
range_more : (a n : ℕ) → range_with_len a (n + 1) ≡ range_with_len a n ++ (a + n) ∷ []
range_more a zero = rw (add-zero a) refl
range_more a (suc n) =
    let e : a + 1 + n ≡ a + suc n = omega arith in
    rw (add-one (suc n))
    (ap (λ rest. a ∷ rest)
    (ap (λ k. range_with_len (a + 1) k) (sym (add-one n)) ∙ range_more (a + 1) n ∙ ap (λ k. range_with_len (a + 1) n ++ k ∷ []) e))

-- the numbers that pass among n from 1 on, and the next if it passes
pub filter_more : (p : ℕ → Bool) (n : ℕ) → filter p (range_with_len 1 (n + 1)) ≡ filter p (range_with_len 1 n) ++ filter p ((n + 1) ∷ [])
filter_more p n =
    let e : 1 + n ≡ n + 1 = omega arith in
    rw (range_more 1 n, e) (filter-append p (range_with_len 1 n) ((n + 1) ∷ []))

pub filter_one : (p : ℕ → Bool) (n : ℕ) → p (n + 1) ≡ true → filter p (range_with_len 1 (n + 1)) ≡ filter p (range_with_len 1 n) ++ (n + 1) ∷ []
filter_one p n is = rw (filter_more p n, is) refl

pub filter_none : (p : ℕ → Bool) (n : ℕ) → p (n + 1) ≡ false → filter p (range_with_len 1 (n + 1)) ≡ filter p (range_with_len 1 n)
filter_none p n is = rw (filter_more p n, is) (append-nil (filter p (range_with_len 1 n)))

pub filter_all : (d : DraftPlant) (xs : List ℕ) (n : ℕ) → n ≡ MAX_COLUMN → xs ≡ filter (is_used d) (range_with_len 1 n) → xs ≡ columns_of d
unfolding columns_of
filter_all d xs n e h = h ∙ ap (λ k. filter (is_used d) (range_with_len 1 k)) e
