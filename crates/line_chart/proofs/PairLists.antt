-- What holds of the pairs of a list that is made of lists, and counts of one element among many.
use Rattle.std.proofs.Common.{◌≡◌, ◌≢◌, ℕ, zero, suc, ◌+◌, ◌<◌, ◌≤◌, Bool, true, false, cond, List, [], ◌∷◌, ◌++◌, map, get_or, refl, ap, ◌∙◌, inl, inr, arith}
use Rattle.std.specs.Prelude.{sum_by, count_by}
use Rattle.std.specs.List.{All, AllPairs, filter, flat_map, range_with_len}
use Rattle.std.proofs.lemmas.Bool.{cases_lt}
use Rattle.std.proofs.lemmas.List.Sums.{sum_by-cons, sum_by-append}
use Rattle.std.proofs.lemmas.List.Kept.{AllPairs-cons}
use Rattle.std.proofs.lemmas.List.Elements.{All-nil, All-cons, All-append, All-head, All-tail}
use Rattle.line_graph.proofs.WithinLimits.{All-flat_map}

AllPairs-tail : {X : Type 0} (R : X → X → Type 0) (x : X) (xs : List X) → AllPairs R (x ∷ xs) → AllPairs R xs
AllPairs-tail R x xs h = λ i j d before inside. h (suc i) (suc j) d (omega arith) (omega arith)

AllPairs-head : {X : Type 0} (R : X → X → Type 0) (x : X) (xs : List X) → AllPairs R (x ∷ xs) → All (R x) xs
AllPairs-head R x xs h = λ k d inside. h 0 (suc k) d (omega arith) (omega arith)

AllPairs-nil : {X : Type 0} (R : X → X → Type 0) → AllPairs R []
AllPairs-nil R = λ i j d before inside. absurd (omega arith)

AllPairs-append : {X : Type 0} (R : X → X → Type 0) (xs ys : List X) → AllPairs R xs → AllPairs R ys → All (λ x. All (R x) ys) xs → AllPairs R (xs ++ ys)
AllPairs-append R [] ys first second across = second
AllPairs-append R (x ∷ xs) ys first second across =
    let later = AllPairs-append R xs ys (AllPairs-tail R x xs first) second (All-tail (λ z. All (R z) ys) x xs across) in
    AllPairs-cons R x (xs ++ ys) (All-append (R x) xs ys (AllPairs-head R x xs first) (All-head (λ z. All (R z) ys) x xs across)) later

pub AllPairs-flat_map : {X Y : Type 0} (R : Y → Y → Type 0) (f : X → List Y) (xs : List X) → All (λ x. AllPairs R (f x)) xs → AllPairs (λ x z. All (λ y. All (R y) (f z)) (f x)) xs → AllPairs R (flat_map f xs)
AllPairs-flat_map R f [] each across = AllPairs-nil R
AllPairs-flat_map {X} {Y} R f (x ∷ xs) each across =
    let apart = λ (a : X) (b : X). All (λ y. All (R y) (f b)) (f a) in
    let rest = AllPairs-flat_map R f xs (All-tail (λ z. AllPairs R (f z)) x xs each) (AllPairs-tail apart x xs across) in
    let here = AllPairs-head apart x xs across in
    AllPairs-append R (f x) (flat_map f xs) (All-head (λ z. AllPairs R (f z)) x xs each) rest
    (λ k d inside. All-flat_map (R (get_or (f x) k d)) f xs (λ m e below. here m e below k d inside))

pub AllPairs-range : {Y : Type 0} (R : Y → Y → Type 0) (f : ℕ → Y) (a n : ℕ) → ((i j : ℕ) → a ≤ i → i < j → j < a + n → R (f i) (f j)) → AllPairs R (map f (range_with_len a n))
AllPairs-range {Y} R f a zero each = AllPairs-nil R
AllPairs-range {Y} R f a (suc n) each =
    let rest = AllPairs-range R f (a + 1) n (λ i j low before high. each i j (omega arith) before (omega arith)) in
    AllPairs-cons R (f a) (map f (range_with_len (a + 1) n)) (All-range-map (R (f a)) f (a + 1) n (λ j low high. each a j (omega arith) (omega arith) (omega arith))) rest
  where
    All-range-map : (P : Y → Type 0) (f : ℕ → Y) (a n : ℕ) → ((j : ℕ) → a ≤ j → j < a + n → P (f j)) → All P (map f (range_with_len a n))
    All-range-map P f a zero each = All-nil P
    All-range-map P f a (suc n) each =
        All-cons P (f a) (map f (range_with_len (a + 1) n)) (each a (omega arith) (omega arith)) (All-range-map P f (a + 1) n (λ j low high. each j (omega arith) (omega arith)))

pub AllPairs-weaker : {X : Type 0} (R S : X → X → Type 0) (P : X → Type 0) (xs : List X) → ((x y : X) → P x → P y → R x y → S x y) → All P xs → AllPairs R xs → AllPairs S xs
AllPairs-weaker R S P xs weaker all pairs =
    λ i j d before inside. weaker (get_or xs i d) (get_or xs j d) (all i d (omega arith)) (all j d inside) (pairs i j d before inside)

-- ---- counting

pub count-flat_map : {X Y : Type 0} (q : Y → Bool) (f : X → List Y) (xs : List X) → count_by q (flat_map f xs) ≡ sum_by (λ x. count_by q (f x)) xs
count-flat_map q f [] = refl
count-flat_map {X} {Y} q f (x ∷ xs) =
    let one : Y → ℕ = λ y. cond (q y) 1 0 in
    omega (arith, sum_by-append one (f x) (flat_map f xs), count-flat_map q f xs, sum_by-cons (λ (z : X). count_by q (f z)) x xs)

pub count-filter-map : {X : Type 0} (q t : X → Bool) (f : ℕ → X) (ns : List ℕ) → count_by q (filter t (map f ns)) ≡ sum_by (λ n. cond (t (f n)) (cond (q (f n)) 1 0) 0) ns
count-filter-map q t f [] = refl
count-filter-map {X} q t f (n ∷ ns) =
    let one : X → ℕ = λ y. cond (q y) 1 0 in
    let part : Bool → ℕ = λ b. cond b (one (f n)) 0 in
    let rest = count-filter-map q t f ns in
    let all = sum_by-cons (λ m. cond (t (f m)) (cond (q (f m)) 1 0) 0) n ns in
    elim (t (f n)) as (λ b. count_by q (cond b (f n ∷ filter t (map f ns)) (filter t (map f ns))) ≡ part b + count_by q (filter t (map f ns))) [
      | true ↦ sum_by-cons one (f n) (filter t (map f ns))
      | false ↦ omega arith
    ]
    ∙ omega (arith, rest, all)

-- the same sum over what a list is made of
pub sum-map : {X : Type 0} (h : X → ℕ) (f : ℕ → X) (ns : List ℕ) → sum_by h (map f ns) ≡ sum_by (λ n. h (f n)) ns
sum-map h f [] = refl
sum-map h f (n ∷ ns) =
    omega (arith, sum_by-cons h (f n) (map f ns), sum_by-cons (λ m. h (f m)) n ns, sum-map h f ns)

pub sum-flat_map : {X Y : Type 0} (h : Y → ℕ) (f : X → List Y) (xs : List X) → sum_by h (flat_map f xs) ≡ sum_by (λ x. sum_by h (f x)) xs
sum-flat_map h f [] = refl
sum-flat_map {X} {Y} h f (x ∷ xs) =
    omega (arith, sum_by-append h (f x) (flat_map f xs), sum-flat_map h f xs, sum_by-cons (λ (z : X). sum_by h (f z)) x xs)

-- a sum of which no number counts, and one of which one alone does
pub sum-none : (h : ℕ → ℕ) (a n : ℕ) → ((k : ℕ) → a ≤ k → k < a + n → h k ≡ 0) → sum_by h (range_with_len a n) ≡ 0
sum-none h a zero none = refl
sum-none h a (suc n) none =
    omega (arith, sum_by-cons h a (range_with_len (a + 1) n), none a (omega arith) (omega arith), sum-none h (a + 1) n (λ k low high. none k (omega arith) (omega arith)))

pub sum-one : (h : ℕ → ℕ) (i a n : ℕ) → a ≤ i → i < a + n → ((k : ℕ) → a ≤ k → k < a + n → k ≢ i → h k ≡ 0) → sum_by h (range_with_len a n) ≡ h i
sum-one h i a zero low high none = absurd (omega arith)
sum-one h i a (suc n) low high none =
    let all = sum_by-cons h a (range_with_len (a + 1) n) in
    elim (cases_lt a i) [
      | inl before ↦
          let other : a ≢ i = λ same. omega arith in
          omega (arith, all, none a (omega arith) (omega arith) other, sum-one h i (a + 1) n (omega arith) (omega arith) (λ k above under differs. none k (omega arith) (omega arith) differs))
      | inr after ↦
          let same : a ≡ i = omega arith in
          let here = ap h same in
          omega (arith, all, here, sum-none h (a + 1) n (λ k above under. none k (omega arith) (omega arith) (λ e. omega arith)))
    ]
