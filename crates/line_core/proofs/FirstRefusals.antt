-- The first refusal among those of each number below n, found by a walk that stops at the first.
use Rattle.std.proofs.Common.{◌≡◌, ℕ, zero, suc, ◌+◌, ◌<◌, ◌≤◌, Bool, true, false, List, [], ◌∷◌, ◌++◌, drop, get_or, refl, sym, ap, ◌∙◌, arith, drop-cons, add-one, zero-add, subst}
use Rattle.std.specs.Prelude.{None, Some, Result, IsErrAnd, ⊤}
use Rattle.std.proofs.lemmas.Result.{err_from_is_err_and}
use Rattle.std.specs.List.{All, flat_map, range_with_len}
use Rattle.std.proofs.lemmas.List.{drop_all}
use Rattle.std.proofs.lemmas.List.FromFn.{length-range_with_len, get_or-range_with_len}
use Rattle.line_core.specs.declared.error.StateError.{StateError}
use Rattle.line_core.specs.Parts.{each_below, first, refuse_if, AnswersFirst}

-- the first of two lists of refusals
first-append : (xs ys : List StateError) (refusal : StateError) → first xs ≡ Some refusal → first (xs ++ ys) ≡ Some refusal
first-append [] ys refusal found = cc
first-append (x ∷ xs) ys refusal found = found

pub first-after_none : (xs ys : List StateError) (refusal : StateError) → xs ≡ [] → first ys ≡ Some refusal → first (xs ++ ys) ≡ Some refusal
first-after_none xs ys refusal none found = ap (λ l. first (l ++ ys)) none ∙ found

pub first-front : (xs ys : List StateError) (refusal : StateError) → first xs ≡ Some refusal → first (xs ++ ys) ≡ Some refusal
first-front xs ys refusal found = first-append xs ys refusal found

-- a list of refusals is empty where its first is none
pub first-none : (xs : List StateError) → first xs ≡ None → xs ≡ []
first-none [] none = refl
first-none (x ∷ xs) none = cc

-- two lists are empty together
pub none-append : (xs ys : List StateError) → xs ≡ [] → ys ≡ [] → xs ++ ys ≡ []
none-append xs ys none none_later = ap (λ l. l ++ ys) none ∙ none_later

pub append-none_left : (xs ys : List StateError) → xs ++ ys ≡ [] → xs ≡ []
append-none_left [] ys none = refl
append-none_left (x ∷ xs) ys none = cc

pub append-none_right : (xs ys : List StateError) → xs ++ ys ≡ [] → ys ≡ []
append-none_right [] ys none = none
append-none_right (x ∷ xs) ys none = cc

-- the exit of a `?` at a refusal
pub handed_on : {refusal : StateError} (r : Result ⊤ StateError) (refusals : List StateError) → IsErrAnd r (λ e. e ≡ refusal) → first refusals ≡ Some refusal → AnswersFirst r refusals
handed_on r refusals was found =
    let p = err_from_is_err_and r was in rw (p.1, p.2) found

pub handed_on_front : {refusal : StateError} (r : Result ⊤ StateError) (xs ys : List StateError) → IsErrAnd r (λ e. e ≡ refusal) → first xs ≡ Some refusal → AnswersFirst r (xs ++ ys)
handed_on_front r xs ys was found = handed_on r (xs ++ ys) was (first-front xs ys _ found)

-- the answer of the second of two tests, where the first refuses nothing
pub answers-later : (r : Result ⊤ StateError) (xs ys : List StateError) → xs ≡ [] → AnswersFirst r ys → AnswersFirst r (xs ++ ys)
answers-later r xs ys none answers = subst (AnswersFirst r) (ap (λ l. l ++ ys) (sym none)) answers

-- for tests of which each comes where those before it refuse nothing
pub ruleset one_after_other = (handed_on_front, answers-later)

-- ---- one test

pub refuse_if-none : (test : Bool) (refusal : StateError) → test ≡ false → refuse_if test refusal ≡ []
refuse_if-none test refusal fails = ap (λ b. refuse_if b refusal) fails

pub refuse_if-first : (test : Bool) (refusal : StateError) → test ≡ true → first (refuse_if test refusal) ≡ Some refusal
refuse_if-first test refusal holds = ap (λ b. first (refuse_if b refusal)) holds

pub test-none : (test : Bool) (refusal : StateError) → refuse_if test refusal ≡ [] → test ≡ false
test-none true refusal none = cc
test-none false refusal none = refl

-- ---- each number below n

module _ (n : ℕ) (f : ℕ → List StateError) where
  -- the numbers below i give no refusal
  unfoldable pub NoneBelow : ℕ → Type 0
  NoneBelow i = flat_map f (drop i (range_with_len 0 n)) ≡ each_below n f

  here : (i : ℕ) → i < n → get_or (range_with_len 0 n) i 0 ≡ i
  here i low = get_or-range_with_len 0 n i 0 low ∙ zero-add i

  next : (i : ℕ) → i < n → flat_map f (drop i (range_with_len 0 n)) ≡ f i ++ flat_map f (drop (suc i) (range_with_len 0 n))
  next i low =
      ap (flat_map f) (drop-cons (range_with_len 0 n) i 0 (omega (arith, low, length-range_with_len 0 n)))
      ∙ ap (λ x. f x ++ flat_map f (drop (suc i) (range_with_len 0 n))) (here i low)

  pub none_below_0 : NoneBelow 0
  unfolding NoneBelow each_below
  none_below_0 = refl

  pub none_below_next : (i : ℕ) → i < n → f i ≡ [] → NoneBelow i → NoneBelow (i + 1)
  unfolding NoneBelow
  none_below_next i low none before =
      ap (λ m. flat_map f (drop m (range_with_len 0 n))) (add-one i)
      ∙ ap (λ l. l ++ flat_map f (drop (suc i) (range_with_len 0 n))) (sym none)
      ∙ sym (next i low)
      ∙ before

  pub found_at : (i : ℕ) (refusal : StateError) → i < n → first (f i) ≡ Some refusal → NoneBelow i → first (each_below n f) ≡ Some refusal
  unfolding NoneBelow
  found_at i refusal low found before =
      ap first (sym before ∙ next i low) ∙ first-append (f i) (flat_map f (drop (suc i) (range_with_len 0 n))) refusal found

  pub none_below_all : (i : ℕ) → n ≤ i → NoneBelow i → each_below n f ≡ []
  unfolding NoneBelow
  none_below_all i past before =
      sym before ∙ ap (flat_map f) (drop_all i (range_with_len 0 n) (omega (arith, past, length-range_with_len 0 n)))

  -- no refusal at all is none for each number
  none_upto : (i : ℕ) → i ≤ n → ((j : ℕ) → j < n → f j ≡ []) → NoneBelow i
  none_upto zero low none = none_below_0
  none_upto (suc i) low none =
      subst NoneBelow (add-one i) (none_below_next i (omega arith) (none i (omega arith)) (none_upto i (omega arith) none))

  pub each_none : ((i : ℕ) → i < n → f i ≡ []) → each_below n f ≡ []
  each_none none = none_below_all n (omega arith) (none_upto n (omega arith) none)

-- for a walk over the numbers that stops at the first refusal: none at its start, none more behind a test that refuses
-- nothing
pub ruleset none_so_far = (none_below_0, none_below_next)

-- the exit of a `?` at number i
pub handed_on_at : {refusal : StateError} (n : ℕ) (f : ℕ → List StateError) (i : ℕ) (r : Result ⊤ StateError) → IsErrAnd r (λ e. e ≡ refusal) → i < n → first (f i) ≡ Some refusal → NoneBelow n f i → AnswersFirst r (each_below n f)
handed_on_at n f i r was low found before = handed_on r (each_below n f) was (found_at n f i _ low found before)

none_of_map : (f : ℕ → List StateError) (xs : List ℕ) → flat_map f xs ≡ [] → All (λ x. f x ≡ []) xs
none_of_map f [] none k d low = absurd (omega arith)
none_of_map f (x ∷ xs) none zero d low = append-none_left (f x) (flat_map f xs) none
none_of_map f (x ∷ xs) none (suc k) d low =
    none_of_map f xs (append-none_right (f x) (flat_map f xs) none) k d (omega arith)

pub none_each : (n : ℕ) (f : ℕ → List StateError) → each_below n f ≡ [] → (i : ℕ) → i < n → f i ≡ []
unfolding each_below
none_each n f none i low =
    subst
    (λ x. f x ≡ [])
    (here n f i low)
    (none_of_map f (range_with_len 0 n) none i 0 (omega (arith, low, length-range_with_len 0 n)))
