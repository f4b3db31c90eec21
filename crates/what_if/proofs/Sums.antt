-- The sum over dates that differ, after one more date has changed.
use Rattle.std.proofs.Common.{◌≡◌, ◌≢◌, ℕ, zero, suc, ◌+◌, ◌<◌, ◌≤◌, ◌⊎◌, cond, eqb, length, refl, sym, ap, arith, inl, inr}
use Rattle.std.specs.List.{sum_by, range_with_len}
use Rattle.std.proofs.lemmas.Bool.{cases_eq, cond-true, cond-false, ne_eqb, eq-eqb}
use Rattle.std.proofs.lemmas.List.Sums.{sum_by-cons}
use Rattle.line_base.specs.declared.event.Parts.{Parts}
use Rattle.event_graph.specs.Network.{stations, jobs, outs}
use Rattle.event_graph.specs.Table.{Table}
use Rattle.what_if.specs.Page.{IsDate}
use Rattle.what_if.specs.Settled.{outs_if_changed, changed_outs_at, changed_outs}

-- terms that are the same have the same sum
sum_by-same : (f h : ℕ → ℕ) (start len : ℕ) → ((j : ℕ) → start ≤ j → j < start + len → h j ≡ f j) → sum_by h (range_with_len start len) ≡ sum_by f (range_with_len start len)
sum_by-same f h start zero same = refl
sum_by-same f h start (suc len) same =
    omega (arith, sum_by-cons f start (range_with_len (start + 1) len), sum_by-cons h start (range_with_len (start + 1) len), same start (omega arith) (omega arith), sum_by-same f h (start + 1) len (λ j low high. same j (omega arith) (omega arith)))

-- where one term is greater, so is the sum
sum_by-one : (f h : ℕ → ℕ) (start len k more : ℕ) → start ≤ k → k < start + len → h k ≡ f k + more → ((j : ℕ) → start ≤ j → j < start + len → j ≢ k → h j ≡ f j) → sum_by h (range_with_len start len) ≡ sum_by f (range_with_len start len) + more
sum_by-one f h start zero k more low high here others = absurd (omega arith)
sum_by-one f h start (suc len) k more low high here others =
    let f_cons = sum_by-cons f start (range_with_len (start + 1) len) in
    let h_cons = sum_by-cons h start (range_with_len (start + 1) len) in
    elim (cases_eq k start) [
      | inl same ↦
          let rest = sum_by-same f h (start + 1) len (λ j after before. others j (omega arith) (omega arith) (λ e. omega (arith, e, same))) in
          omega (arith, f_cons, h_cons, rest, ap h same, ap f same, here)
      | inr later ↦
          let first = others start (omega arith) (omega arith) (λ e. later (sym e)) in
          omega (arith, f_cons, h_cons, first, sum_by-one f h (start + 1) len k more (omega arith) (omega arith) here (λ j after before. others j (omega arith) (omega arith)))
    ]

module _ (g : Parts) (x y z : Table) (t n : ℕ) (date : IsDate g t n) (others : (u m : ℕ) → IsDate g u m → (u ≢ t) ⊎ (m ≢ n) → z u m ≡ y u m) where
  same-outs : (u m : ℕ) → IsDate g u m → (u ≢ t) ⊎ (m ≢ n) → outs_if_changed g x z u m ≡ outs_if_changed g x y u m
  unfolding outs_if_changed
  same-outs u m there other = ap (λ d. cond (eqb (x u m) d) 0 (length (outs g u))) (others u m there other)

  here-outs : x t n ≡ y t n → x t n ≢ z t n → outs_if_changed g x z t n ≡ outs_if_changed g x y t n + length (outs g t)
  unfolding outs_if_changed
  here-outs same changed =
      omega (arith, cond-false (eqb (x t n) (z t n)) 0 (length (outs g t)) (ne_eqb (x t n) (z t n) changed), cond-true (eqb (x t n) (y t n)) 0 (length (outs g t)) (eq-eqb (x t n) (y t n) same))

  other-station : (u : ℕ) → u < stations g → u ≢ t → changed_outs_at g x z u ≡ changed_outs_at g x y u
  unfolding changed_outs_at
  other-station u there other =
      sum_by-same (outs_if_changed g x y u) (outs_if_changed g x z u) 1 (jobs g) (λ m from low.
      same-outs u m (record { station = there; from_one = from; job = omega arith }) (inl other))

  this-station : x t n ≡ y t n → x t n ≢ z t n → changed_outs_at g x z t ≡ changed_outs_at g x y t + length (outs g t)
  unfolding changed_outs_at
  this-station same changed =
      sum_by-one (outs_if_changed g x y t) (outs_if_changed g x z t) 1 (jobs g) n (length (outs g t)) date.from_one (omega (arith, date.job)) (here-outs same changed) (λ m from low other.
      same-outs t m (record { station = date.station; from_one = from; job = omega arith }) (inr other))

  -- one more date that differs adds the arcs out of its station
  pub changed_outs-more : x t n ≡ y t n → x t n ≢ z t n → changed_outs g x z ≡ changed_outs g x y + length (outs g t)
  unfolding changed_outs
  changed_outs-more same changed =
      sum_by-one (changed_outs_at g x y) (changed_outs_at g x z) 0 (stations g) t (length (outs g t)) (omega arith) (omega (arith, date.station)) (this-station same changed) (λ u from low other.
      other-station u (omega arith) other)

-- where no date is another, nothing is added
pub changed_outs-same : (g : Parts) (x y z : Table) → ((u m : ℕ) → IsDate g u m → z u m ≡ y u m) → changed_outs g x z ≡ changed_outs g x y
unfolding changed_outs changed_outs_at outs_if_changed
changed_outs-same g x y z same =
    sum_by-same (changed_outs_at g x y) (changed_outs_at g x z) 0 (stations g) (λ u from low.
    sum_by-same (outs_if_changed g x y u) (outs_if_changed g x z u) 1 (jobs g) (λ m one within.
    ap (λ d. cond (eqb (x u m) d) 0 (length (outs g u))) (same u m (record { station = omega arith; from_one = one; job = omega arith }))))
