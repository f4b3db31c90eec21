-- The earliest of latest dates: no later than each, and no earlier than what none is earlier than.
use Rattle.std.proofs.Common.{◌≡◌, ℕ, zero, suc, ◌+◌, ◌<◌, ◌≤◌, List, [], ◌∷◌, length, get_or, drop, drop-cons, min, refl, sym, ap, ◌∙◌, arith, add-one}
use Rattle.std.specs.Prelude.{Option, None, Some}
use Rattle.std.specs.List.{All}
use Rattle.std.proofs.lemmas.List.{drop_all}
use Rattle.std.proofs.lemmas.List.Elements.{All-head, All-tail}
use Rattle.latest_dates.specs.Latest.{earlier, earliest, IsNoLater}

pub no_later-self : (o : Option ℕ) → IsNoLater o o
no_later-self None = tt
no_later-self (Some date) = omega arith

-- what is no later than the earlier of two is no later than each
pub no_later-first : (o a b : Option ℕ) → IsNoLater o (earlier a b) → IsNoLater o a
no_later-first o None b h = tt
no_later-first None (Some a) None h = h
no_later-first None (Some a) (Some b) h = h
no_later-first (Some o) (Some a) None h = h
no_later-first (Some o) (Some a) (Some b) h = omega arith

pub no_later-second : (o a b : Option ℕ) → IsNoLater o (earlier a b) → IsNoLater o b
no_later-second o None b h = h
no_later-second o (Some a) None h = tt
no_later-second None (Some a) (Some b) h = h
no_later-second (Some o) (Some a) (Some b) h = omega arith

-- and what is no later than both is no later than that
pub no_later-both : (o a b : Option ℕ) → IsNoLater o a → IsNoLater o b → IsNoLater o (earlier a b)
no_later-both o None b first second = second
no_later-both o (Some a) None first second = first
no_later-both None (Some a) (Some b) first second = first
no_later-both (Some o) (Some a) (Some b) first second = omega arith

pub no_later-each : (o : Option ℕ) (f : ℕ → Option ℕ) (xs : List ℕ) → IsNoLater o (earliest f xs) → All (λ x. IsNoLater o (f x)) xs
unfolding earliest
no_later-each o f [] h k d low = absurd (omega arith)
no_later-each o f (x ∷ xs) h zero d low = no_later-first o (f x) (earliest f xs) h
no_later-each o f (x ∷ xs) h (suc k) d low =
    no_later-each o f xs (no_later-second o (f x) (earliest f xs) h) k d (omega arith)

-- what holds of no date, and of the earlier of any two of which it holds, holds of the earliest where it holds of each
earliest-all : (P : Option ℕ → Type 0) (f : ℕ → Option ℕ) (xs : List ℕ) → P None → ((a b : Option ℕ) → P a → P b → P (earlier a b)) → All (λ x. P (f x)) xs → P (earliest f xs)
unfolding earliest
earliest-all P f [] none both all = none
earliest-all P f (x ∷ xs) none both all =
    both (f x) (earliest f xs)
    (All-head (λ y. P (f y)) x xs all)
    (earliest-all P f xs none both (All-tail (λ y. P (f y)) x xs all))

pub no_later-all : (o : Option ℕ) (f : ℕ → Option ℕ) (xs : List ℕ) → All (λ x. IsNoLater o (f x)) xs → IsNoLater o (earliest f xs)
no_later-all o f xs all = earliest-all (IsNoLater o) f xs tt (no_later-both o) all

-- a date, if it is one, is at most this number
abbrev pub IsWithin : ℕ → Option ℕ → Type 0
IsWithin most None = Unit {0}
IsWithin most (Some date) = date ≤ most

pub within-both : (most : ℕ) (a b : Option ℕ) → IsWithin most a → IsWithin most b → IsWithin most (earlier a b)
within-both most None b first second = second
within-both most (Some a) None first second = first
within-both most (Some a) (Some b) first second = omega arith

pub within-all : (most : ℕ) (f : ℕ → Option ℕ) (xs : List ℕ) → All (λ x. IsWithin most (f x)) xs → IsWithin most (earliest f xs)
within-all most f xs all = earliest-all (IsWithin most) f xs tt (within-both most) all

-- functions that agree on a list have the same earliest value there
pub earliest-same : (f h : ℕ → Option ℕ) (xs : List ℕ) → All (λ x. f x ≡ h x) xs → earliest f xs ≡ earliest h xs
unfolding earliest
earliest-same f h [] all = refl
earliest-same f h (x ∷ xs) all =
    ap (λ o. earlier o (earliest f xs)) (All-head (λ y. f y ≡ h y) x xs all)
    ∙ ap (earlier (h x)) (earliest-same f h xs (All-tail (λ y. f y ≡ h y) x xs all))

-- one more value of those that are left
min-along : (a b c : ℕ) → min (min a b) c ≡ min a (min b c)
min-along a b c = omega arith

earlier-along : (a b c : Option ℕ) → earlier (earlier a b) c ≡ earlier a (earlier b c)
earlier-along None b c = refl
earlier-along (Some a) None c = refl
earlier-along (Some a) (Some b) None = refl
earlier-along (Some a) (Some b) (Some c) = ap Some (min-along a b c)

pub earlier-none : (a : Option ℕ) → earlier a None ≡ a
earlier-none None = refl
earlier-none (Some a) = refl

pub earliest-next : (f : ℕ → Option ℕ) (xs : List ℕ) (i d : ℕ) (found : Option ℕ) → i < length xs → earlier (earlier found (f (get_or xs i d))) (earliest f (drop (i + 1) xs)) ≡ earlier found (earliest f (drop i xs))
unfolding earliest
earliest-next f xs i d found low =
    earlier-along found (f (get_or xs i d)) (earliest f (drop (i + 1) xs))
    ∙ ap (λ k. earlier found (earlier (f (get_or xs i d)) (earliest f (drop k xs)))) (add-one i)
    ∙ ap (λ l. earlier found (earliest f l)) (sym (drop-cons xs i d low))

pub earliest-past : (f : ℕ → Option ℕ) (xs : List ℕ) (i : ℕ) (found : Option ℕ) → length xs ≤ i → earlier found (earliest f (drop i xs)) ≡ found
unfolding earliest
earliest-past f xs i found past = ap (λ l. earlier found (earliest f l)) (drop_all i xs past) ∙ earlier-none found
