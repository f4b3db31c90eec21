-- Lists that are made number by number: an element by its number, and what holds of each.
use Rattle.std.proofs.Common.{◌≡◌, ℕ, zero, suc, ◌+◌, ◌*◌, ◌<◌, ◌≤◌, Bool, true, cond, inl, inr, List, [], ◌∷◌, ◌++◌, length, get_or, take, map, refl, sym, ap, ◌∙◌, subst, zero-add, arith}
use Rattle.std.specs.List.{range_with_len, filter, flat_map, count_by, All, Contains}
use Rattle.std.proofs.lemmas.Bool.{cases_lt}
use Rattle.std.proofs.lemmas.List.{append-nil, map-append, map-id, length-append, get_or_push, get_or_append_left}
use Rattle.std.proofs.lemmas.List.FromFn.{filter_of_map_range_with_len_more, map-range_with_len_more, length-map-range_with_len, get_or-map-range_with_len, length-range_with_len, get_or-range_with_len, take-map-range_with_len}
use Rattle.std.proofs.lemmas.List.Concat.{flat_map-append, get_or-flat_map}
use Rattle.std.proofs.lemmas.List.Sums.{sum_by_push, length-filter}
use Rattle.std.proofs.lemmas.List.Elements.{All-nil, All-append, All-map, All-filter, All-from_get_or, filter_passes, Contains-append_left, Contains-append_right}

-- the numbers below n, and n
pub range-more : (n : ℕ) → range_with_len 0 (n + 1) ≡ range_with_len 0 n ++ n ∷ []
range-more n =
    sym (map-id (range_with_len 0 (n + 1))) ∙ map-range_with_len_more (λ (x : ℕ). x) 0 n n (omega arith) ∙ ap (λ xs. xs ++ n ∷ []) (map-id (range_with_len 0 n))

pub filter-range_more : (p : ℕ → Bool) (n : ℕ) → filter p (range_with_len 0 (n + 1)) ≡ filter p (range_with_len 0 n) ++ cond (p n) (n ∷ []) []
filter-range_more p n =
    let e = filter_of_map_range_with_len_more p (λ (x : ℕ). x) 0 n n (omega arith) in
    rw (← map-id (range_with_len 0 (n + 1)), ← map-id (range_with_len 0 n)) e

pub flat_map-range_more : {X : Type 0} (f : ℕ → List X) (n : ℕ) → flat_map f (range_with_len 0 (n + 1)) ≡ flat_map f (range_with_len 0 n) ++ f n
flat_map-range_more f n =
    ap (flat_map f) (range-more n) ∙ flat_map-append f (range_with_len 0 n) (n ∷ []) ∙ ap (λ xs. flat_map f (range_with_len 0 n) ++ xs) (append-nil (f n))

-- what holds at each number holds of each element made from one
pub All-range : (P : ℕ → Type 0) (n : ℕ) → ((i : ℕ) → i < n → P i) → All P (range_with_len 0 n)
All-range P n h =
    All-from_get_or P (range_with_len 0 n) 0 (λ i below. let inside = rw length-range_with_len at below in rw (get_or-range_with_len 0 n i 0 inside, zero-add) (h i inside))

pub All-map-range : {X : Type 0} (P : X → Type 0) (f : ℕ → X) (n : ℕ) → ((i : ℕ) → i < n → P (f i)) → All P (map f (range_with_len 0 n))
All-map-range P f n h = All-map P f (range_with_len 0 n) (All-range (λ i. P (f i)) n h)

pub All-map-filter : {X : Type 0} (P : X → Type 0) (f : ℕ → X) (t : ℕ → Bool) (n : ℕ) → ((i : ℕ) → i < n → t i ≡ true → P (f i)) → All P (map f (filter t (range_with_len 0 n)))
All-map-filter P f t n h =
    let inside = All-filter t (λ i. i < n) (range_with_len 0 n) (All-range (λ i. i < n) n (λ i below. below)) in
    let passes = filter_passes t (range_with_len 0 n) in
    All-map P f (filter t (range_with_len 0 n)) (λ k d below. h _ (inside k d below) (passes k d below))

pub All-flat_map-range : {X : Type 0} (P : X → Type 0) (f : ℕ → List X) (n : ℕ) → ((i : ℕ) → i < n → All P (f i)) → All P (flat_map f (range_with_len 0 n))
All-flat_map-range P f zero h = All-nil P
All-flat_map-range P f (suc n) h =
    let before = All-flat_map-range P f n (λ i below. h i (omega arith)) in
    let here = h n (omega arith) in
    let joined = All-append P (flat_map f (range_with_len 0 n)) (f n) before here in
    let e : n + 1 ≡ suc n = omega arith in
    subst (λ m. All P (flat_map f (range_with_len 0 m))) e (rw (flat_map-range_more f n) joined)

-- an element of a list that is made number by number
pub Contains-map-range : {X : Type 0} (f : ℕ → X) (n i : ℕ) → i < n → Contains (map f (range_with_len 0 n)) (f i)
Contains-map-range f n i below =
    (i, rw length-map-range_with_len below, get_or-map-range_with_len f 0 n i i (f i) below (omega arith))

pub Contains-flat_map-range : {X : Type 0} (f : ℕ → List X) (n i : ℕ) (x : X) → i < n → Contains (f i) x → Contains (flat_map f (range_with_len 0 n)) x
Contains-flat_map-range f zero i x below h = absurd (omega arith)
Contains-flat_map-range f (suc n) i x below h =
    let e : n + 1 ≡ suc n = omega arith in
    subst (λ m. Contains (flat_map f (range_with_len 0 m)) x) e (rw (flat_map-range_more f n) (elim (cases_lt i n) [
      | inl before ↦ Contains-append_left (flat_map f (range_with_len 0 n)) (f n) x (Contains-flat_map-range f n i x before h)
      | inr here ↦ let same : i ≡ n = omega arith in Contains-append_right (flat_map f (range_with_len 0 n)) (f n) x (subst (λ k. Contains (f k) x) same h)
    ]))

pub Contains-map-filter : {X : Type 0} (f : ℕ → X) (t : ℕ → Bool) (n i : ℕ) → i < n → t i ≡ true → Contains (map f (filter t (range_with_len 0 n))) (f i)
Contains-map-filter f t zero i below passes = absurd (omega arith)
Contains-map-filter f t (suc n) i below passes =
    let e : n + 1 ≡ suc n = omega arith in
    let front = filter t (range_with_len 0 n) in
    let last = λ (b : Bool). map f (cond b (n ∷ []) []) in
    subst (λ m. Contains (map f (filter t (range_with_len 0 m))) (f i)) e (rw (filter-range_more t n, map-append) (elim (cases_lt i n) [
      | inl before ↦ Contains-append_left (map f front) (last (t n)) (f i) (Contains-map-filter f t n i before passes)
      | inr here ↦
          let same : i ≡ n = omega arith in
          let passes_n = subst (λ k. t k ≡ true) same passes in
          let single : Contains (last true) (f n) = (0, omega arith, refl) in
          let alone = subst (λ b. Contains (last b) (f n)) (sym passes_n) single in
          Contains-append_right (map f front) (last (t n)) (f i) (subst (λ k. Contains (last (t n)) (f k)) (sym same) alone)
    ]))

-- the first element, and those after it
pub Contains-head : {X : Type 0} (x : X) (xs : List X) → Contains (x ∷ xs) x
Contains-head x xs = (0, omega arith, refl)

pub Contains-tail : {X : Type 0} (y : X) (xs : List X) (x : X) → Contains xs x → Contains (y ∷ xs) x
Contains-tail y xs x h = (suc h.0, omega (arith, h.1), h.2)

-- the first numbers of a range
pub take-range : (n i : ℕ) → i ≤ n → take i (range_with_len 0 n) ≡ range_with_len 0 i
take-range n i le =
    ap (take i) (sym (map-id (range_with_len 0 n))) ∙ take-map-range_with_len (λ (x : ℕ). x) 0 n i le ∙ map-id (range_with_len 0 i)

-- an element of lists that are joined, by the list that it stands in and its place there
pub get_or-flat_map-range : {X : Type 0} (f : ℕ → List X) (n i j : ℕ) (d : X) → i < n → j < length (f i) → get_or (flat_map f (range_with_len 0 n)) (length (flat_map f (range_with_len 0 i)) + j) d ≡ get_or (f i) j d
get_or-flat_map-range f n i j d below inside =
    let here : get_or (range_with_len 0 n) i 0 ≡ i = get_or-range_with_len 0 n i 0 below ∙ zero-add i in
    let before = take-range n i (omega arith) in
    let there : i < length (range_with_len 0 n) = rw length-range_with_len below in
    let inside_2 = subst (λ k. j < length (f k)) (sym here) inside in
    let found = get_or-flat_map f (range_with_len 0 n) i j 0 d there inside_2 in
    ap (λ xs. get_or (flat_map f (range_with_len 0 n)) (length (flat_map f xs) + j) d) (sym before) ∙ found ∙ ap (λ k. get_or (f k) j d) here

-- lists of one length, one after the other
pub length-flat_map-range : {X : Type 0} (f : ℕ → List X) (c n : ℕ) → ((i : ℕ) → length (f i) ≡ c) → length (flat_map f (range_with_len 0 n)) ≡ n * c
length-flat_map-range f c zero each = omega arith
length-flat_map-range f c (suc n) each =
    let before = length-flat_map-range f c n each in
    let here = each n in
    let e : n + 1 ≡ suc n = omega arith in
    let joined = ap length (flat_map-range_more f n) ∙ length-append (flat_map f (range_with_len 0 n)) (f n) in
    ap (λ m. length (flat_map f (range_with_len 0 m))) (sym e) ∙ omega arith

-- how many numbers below n + 1 pass a test
pub count_by-range_more : (t : ℕ → Bool) (n : ℕ) → count_by t (range_with_len 0 (n + 1)) ≡ count_by t (range_with_len 0 n) + cond (t n) 1 0
count_by-range_more t n =
    ap (count_by t) (range-more n) ∙ sum_by_push (λ x. cond (t x) 1 0) (range_with_len 0 n) n

-- a number that passes a test stands after as many as pass before it
pub passing-at : (t : ℕ → Bool) (n i d : ℕ) → i < n → t i ≡ true → (count_by t (range_with_len 0 i) < length (filter t (range_with_len 0 n))) × (get_or (filter t (range_with_len 0 n)) (count_by t (range_with_len 0 i)) d ≡ i)
passing-at t zero i d below passes = absurd (omega arith)
passing-at t (suc n) i d below passes =
    let e : n + 1 ≡ suc n = omega arith in
    let k = count_by t (range_with_len 0 i) in
    let front = filter t (range_with_len 0 n) in
    let last = λ (b : Bool). cond b (n ∷ []) [] in
    let P = λ (xs : List ℕ). (k < length xs) × (get_or xs k d ≡ i) in
    subst (λ m. P (filter t (range_with_len 0 m))) e (rw (filter-range_more t n) (elim (cases_lt i n) as (λ _. P (front ++ last (t n))) [
      | inl before ↦
          let found = passing-at t n i d before passes in
          (omega (arith, found.0, length-append front (last (t n))), get_or_append_left front (last (t n)) d k found.0 ∙ found.1)
      | inr here ↦
          let same : i ≡ n = omega arith in
          let passes_n = subst (λ j. t j ≡ true) same passes in
          let counted : length front ≡ k = length-filter t (range_with_len 0 n) ∙ ap (λ j. count_by t (range_with_len 0 j)) (sym same) in
          let joined = length-append front (n ∷ []) in
          let alone : P (front ++ n ∷ []) = (omega arith, get_or_push front n d k counted ∙ sym same) in
          subst (λ b. P (front ++ last b)) (sym passes_n) alone
    ]))
