-- Sums of what links add, by station and all together.
use Rattle.std.proofs.Common.{◌≡◌, ◌≢◌, ℕ, zero, suc, ◌+◌, ◌<◌, ◌≤◌, eqb, List, [], ◌∷◌, ◌++◌, length, get_or, take, refl, ap, ◌∙◌, arith, inl, inr}
use Rattle.std.specs.List.{All, range_with_len, sum_by}
use Rattle.std.proofs.lemmas.Bool.{cases_eq, cases_lt, eq-eqb, ne_eqb, cond-true, cond-false}
use Rattle.std.proofs.lemmas.List.Elements.{All-head, All-tail}
use Rattle.std.proofs.lemmas.List.Sums.{sum_by-cons, sum_by_push, sum_by_more, sum_by-take-le}
use Rattle.line_base.proofs.RangeLists.{range-more}
use Rattle.date_causes.specs.declared.link.Link.{Link}
use Rattle.date_causes.specs.Shares.{total, added_at, share, all_shares}

range_suc : (n : ℕ) → range_with_len 0 (suc n) ≡ range_with_len 0 n ++ n ∷ []
range_suc n = let next : suc n ≡ n + 1 = omega arith in ap (range_with_len 0) next ∙ range-more n

sum_by-plus : {X : Type 0} (f h : X → ℕ) (xs : List X) → sum_by (λ x. f x + h x) xs ≡ sum_by f xs + sum_by h xs
sum_by-plus f h [] = refl
sum_by-plus f h (x ∷ xs) =
    omega (arith, sum_by-plus f h xs, sum_by-cons (λ y. f y + h y) x xs, sum_by-cons f x xs, sum_by-cons h x xs)

sum_by-same : {X : Type 0} (f h : X → ℕ) (xs : List X) → ((x : X) → f x ≡ h x) → sum_by f xs ≡ sum_by h xs
sum_by-same f h [] same = refl
sum_by-same f h (x ∷ xs) same =
    omega (arith, same x, sum_by-same f h xs same, sum_by-cons f x xs, sum_by-cons h x xs)

pub at_own : (t : ℕ) (l : Link) → l.station ≡ t → added_at t l ≡ l.added
at_own t l own = cond-true (eqb l.station t) l.added 0 (eq-eqb l.station t own)

pub at_other : (t : ℕ) (l : Link) → l.station ≢ t → added_at t l ≡ 0
at_other t l other = cond-false (eqb l.station t) l.added 0 (ne_eqb l.station t other)

-- a link adds nothing at the stations before its own
none_before : (l : Link) (n : ℕ) → n ≤ l.station → sum_by (λ t. added_at t l) (range_with_len 0 n) ≡ 0
none_before l zero below = refl
none_before l (suc n) below =
    ap (sum_by (λ t. added_at t l)) (range_suc n)
    ∙ sum_by_push (λ t. added_at t l) (range_with_len 0 n) n
    ∙ omega (arith, none_before l n (omega arith), at_other n l (λ own. omega arith))

-- and what it adds at stations among which is its own
all_added : (l : Link) (n : ℕ) → l.station < n → sum_by (λ t. added_at t l) (range_with_len 0 n) ≡ l.added
all_added l zero above = absurd (omega arith)
all_added l (suc n) above =
    let step = ap (sum_by (λ t. added_at t l)) (range_suc n) ∙ sum_by_push (λ t. added_at t l) (range_with_len 0 n) n in
    elim (cases_lt l.station n) [
      | inl before ↦ step ∙ omega (arith, all_added l n before, at_other n l (λ own. omega arith))
      | inr last ↦ step ∙ omega (arith, none_before l n last, at_own n l (omega arith))
    ]

none_shared : (n : ℕ) → all_shares [] n ≡ 0
none_shared zero = refl
none_shared (suc n) = ap (sum_by (share [])) (range_suc n) ∙ sum_by_push (share []) (range_with_len 0 n) n ∙ omega (arith, none_shared n)

-- the shares of all stations are what all links add
pub shares_total : (links : List Link) (n : ℕ) → All (λ l. l.station < n) links → all_shares links n ≡ total links
shares_total [] n all = none_shared n
shares_total (l ∷ links) n all =
    let range = range_with_len 0 n in
    sum_by-same (share (l ∷ links)) (λ t. added_at t l + share links t) range (λ t. sum_by-cons (added_at t) l links)
    ∙ sum_by-plus (λ t. added_at t l) (share links) range
    ∙ omega (arith, all_added l n (All-head (λ k. k.station < n) l links all), shares_total links n (All-tail (λ k. k.station < n) l links all), sum_by-cons (λ k. k.added) l links)

-- a share is at most what all links add
added-le : (t : ℕ) (l : Link) → added_at t l ≤ l.added
added-le t l = elim (cases_eq l.station t) [ inl own ↦ omega (arith, at_own t l own) | inr other ↦ omega (arith, at_other t l other) ]

pub share-le : (links : List Link) (t : ℕ) → share links t ≤ total links
share-le [] t = omega arith
share-le (l ∷ links) t =
    omega (arith, added-le t l, share-le links t, sum_by-cons (added_at t) l links, sum_by-cons (λ k. k.added) l links)

-- the share of the next link's station, with what that link adds, is at most what all links add
pub share_room : (links : List Link) (i : ℕ) (d : Link) → i < length links → share (take i links) (get_or links i d).station + (get_or links i d).added ≤ total links
share_room links i d low =
    let l = get_or links i d in
    omega (arith, sum_by_more (added_at l.station) links i d low, sum_by-take-le (added_at l.station) links (i + 1), share-le links l.station, at_own l.station l refl)
