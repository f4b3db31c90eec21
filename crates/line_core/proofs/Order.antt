-- Stations in the order of their numbers of dates, then of their ranks in an order that arcs without tokens go up.
use Rattle.std.proofs.Common.{◌≡◌, ℕ, zero, suc, ◌-◌, ◌<◌, ◌≤◌, ◌⊎◌, List, length, get_or, sym, subst, arith, ⊎_elim, inl, inr}
use Rattle.std.proofs.lemmas.Bool.{cases_lt, cases_order}
use Rattle.line_base.specs.declared.event.Parts.{Parts}
use Rattle.event_graph.specs.Network.{stations, arc, arc_count}
use Rattle.event_graph.specs.State.{State, log}

-- each arc without a token goes upwards
abbrev pub GoesUp : Parts → List ℕ → Type 0
GoesUp g places =
    (a : ℕ) → a < arc_count g → (arc g a).tokens ≡ 0 → get_or places (arc g a).from 0 < get_or places (arc g a).to 0

-- among the numbers up to n, one that comes before each in an order in which any two compare
module _ (R : ℕ → ℕ → Type 0) (total : (t u : ℕ) → R t u ⊎ R u t) (along : (t u v : ℕ) → R t u → R u v → R t v) where
  itself : (t : ℕ) → R t t
  itself t = ⊎_elim (λ r. r) (λ r. r) (total t t)

  pub first_upto : (n : ℕ) → (t : ℕ) × (t ≤ n) × ((u : ℕ) → u ≤ n → R t u)
  first_upto zero = (0, omega arith, λ u low. let none : 0 ≡ u = omega arith in subst (R 0) none (itself 0))
  first_upto (suc n) =
      let before = first_upto n in
      let t = before.0 in
      let keep : R t (suc n) → (t' : ℕ) × (t' ≤ suc n) × ((u : ℕ) → u ≤ suc n → R t' u) =
      λ first. (t, omega (arith, before.1), λ u low. ⊎_elim (λ early. before.2 u (omega arith)) (λ last. let same : suc n ≡ u = omega arith in subst (R t) same first) (cases_lt u (suc n))) in
      let take : R (suc n) t → (t' : ℕ) × (t' ≤ suc n) × ((u : ℕ) → u ≤ suc n → R t' u) =
      λ first. (suc n, omega arith, λ u low. ⊎_elim (λ early. along (suc n) t u first (before.2 u (omega arith))) (λ last. let same : suc n ≡ u = omega arith in subst (R (suc n)) same (itself (suc n))) (cases_lt u (suc n))) in
      ⊎_elim keep take (total t (suc n))

-- t has fewer dates than u, or as many and no higher rank
abbrev pub ComesFirst : State → List ℕ → ℕ → ℕ → Type 0
ComesFirst s places t u =
    (length (log s t) < length (log s u)) ⊎ ((length (log s t) ≡ length (log s u)) × (get_or places t 0 ≤ get_or places u 0))

total : (s : State) (places : List ℕ) (t u : ℕ) → ComesFirst s places t u ⊎ ComesFirst s places u t
total s places t u =
    ⊎_elim
    (λ same.
    ⊎_elim
    (λ low. inl (inr (same, omega arith)))
    (λ high. inr (inr (sym same, high)))
    (cases_lt (get_or places t 0) (get_or places u 0)))
    (λ apart. ⊎_elim (λ fewer. inl (inl fewer)) (λ more. inr (inl more)) apart)
    (cases_order (length (log s t)) (length (log s u)))

along : (s : State) (places : List ℕ) (t u v : ℕ) → ComesFirst s places t u → ComesFirst s places u v → ComesFirst s places t v
along s places t u v tu uv =
    ⊎_elim
    (λ fewer. inl (⊎_elim (λ more. omega arith) (λ same. omega arith) uv))
    (λ same. ⊎_elim (λ more. inl (omega arith)) (λ again. inr (omega arith, omega arith)) uv)
    tu

-- a station that comes first, and one that comes last
pub first_station : (g : Parts) (s : State) (places : List ℕ) → 1 ≤ stations g → (t : ℕ) × (t < stations g) × ((u : ℕ) → u < stations g → ComesFirst s places t u)
first_station g s places some =
    let found = first_upto (ComesFirst s places) (total s places) (along s places) (stations g - 1) in
    (found.0, omega (arith, found.1), λ u there. found.2 u (omega arith))

pub last_station : (g : Parts) (s : State) (places : List ℕ) → 1 ≤ stations g → (t : ℕ) × (t < stations g) × ((u : ℕ) → u < stations g → ComesFirst s places u t)
last_station g s places some =
    let found =
    first_upto (λ t u. ComesFirst s places u t) (λ t u. total s places u t) (λ t u v tu uv. along s places v u t uv tu) (stations g - 1) in
    (found.0, omega (arith, found.1), λ u there. found.2 u (omega arith))

-- where t comes before u and u isn't below it, t has fewer dates; else it has at most as many
pub no_more_dates : (s : State) (places : List ℕ) (t u : ℕ) → ComesFirst s places t u → length (log s t) ≤ length (log s u)
no_more_dates s places t u first = ⊎_elim (λ fewer. omega arith) (λ same. omega arith) first

pub fewer_dates : (s : State) (places : List ℕ) (t u : ℕ) → ComesFirst s places t u → get_or places u 0 < get_or places t 0 → length (log s t) < length (log s u)
fewer_dates s places t u first above = ⊎_elim (λ fewer. fewer) (λ same. absurd (omega arith)) first
