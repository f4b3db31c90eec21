-- The numbers of dates in the order of evaluation: each date has its own, and dates that read another one come after
-- it.
use Rattle.std.proofs.Common.{◌≡◌, ℕ, ◌+◌, ◌-◌, ◌*◌, ◌/◌, ◌%◌, ◌<◌, ◌≤◌, List, length, get_or, sym, ap, ◌∙◌, arith, inl, inr}
use Rattle.std.proofs.Math.Nat.{mul-le-mul_right, mul_comm, div-add-mod', div-lt_iff_lt-mul}
use Rattle.std.proofs.lemmas.Bool.{cases_lt, cases_eq}
use Rattle.line_base.specs.declared.event.Parts.{Parts}
use Rattle.event_graph.specs.Network.{stations, jobs, arc, arc_count, IsGraph}
use Rattle.live_check.specs.Order.{LiveGraph, IsUpward}
use Rattle.what_if.specs.Page.{IsDate, slot}
use Rattle.what_if.specs.Sheet.{date_count}

n_plus_zero : (n : ℕ) → n + 0 ≡ n
n_plus_zero n = omega arith

-- a lower row is before a higher one
before_row : (i j width p : ℕ) → i < j → p < width → i * width + p < j * width
before_row i j width p low within =
    omega (arith, mul-le-mul_right {m = i + 1} {n = j} width (omega arith))

module _ (l : LiveGraph) (up : IsUpward l.graph l.ranks) where
  pub rank-below : (t : ℕ) → t < stations l.graph → get_or l.ranks t 0 < stations l.graph
  rank-below t there = up.below t 0 (omega (arith, up.rank_for_each))

  pub rank-injective : (t u : ℕ) → t < stations l.graph → u < stations l.graph → get_or l.ranks t 0 ≡ get_or l.ranks u 0 → t ≡ u
  rank-injective t u t_there u_there same =
      let many = up.rank_for_each in
      elim (cases_lt t u) [
        | inl before ↦ absurd (up.distinct t u 0 before (omega (arith, many)) same)
        | inr after ↦ elim (cases_lt u t) [
          | inl later ↦ absurd (up.distinct u t 0 later (omega (arith, many)) (sym same))
          | inr equal ↦ omega arith
        ]
      ]

  pub slot-earlier_job : (t n u m : ℕ) → t < stations l.graph → 1 ≤ n → n < m → slot l t n < slot l u m
  unfolding slot
  slot-earlier_job t n u m there one before =
      omega (arith, before_row (n - 1) (m - 1) (stations l.graph) (get_or l.ranks t 0) (omega arith) (rank-below t there))

  pub slot-below : (t n : ℕ) → IsDate l.graph t n → slot l t n < date_count l.graph
  unfolding slot
  slot-below t n date =
      omega (arith, before_row (n - 1) (jobs l.graph) (stations l.graph) (get_or l.ranks t 0) (omega (arith, date.from_one, date.job)) (rank-below t date.station), mul_comm (stations l.graph) (jobs l.graph))

  slot-same_job : (t u n : ℕ) → slot l t n ≡ slot l u n → get_or l.ranks t 0 ≡ get_or l.ranks u 0
  unfolding slot
  slot-same_job t u n same = omega arith

  pub slot-station : (t n u m : ℕ) → IsDate l.graph t n → IsDate l.graph u m → slot l t n ≡ slot l u m → n ≡ m
  slot-station t n u m here there same =
      elim (cases_lt n m) [
        | inl before ↦ absurd (omega (arith, slot-earlier_job t n u m here.station here.from_one before))
        | inr after ↦ elim (cases_lt m n) [
          | inl later ↦ absurd (omega (arith, slot-earlier_job u m t n there.station there.from_one later))
          | inr equal ↦ omega arith
        ]
      ]

  pub slot-rank : (t n u m : ℕ) → IsDate l.graph t n → IsDate l.graph u m → slot l t n ≡ slot l u m → t ≡ u
  slot-rank t n u m here there same =
      let job = slot-station t n u m here there same in
      rank-injective t u here.station there.station (slot-same_job t u n (same ∙ ap (slot l u) (sym job)))

  slot-upward : (t u n : ℕ) → get_or l.ranks t 0 < get_or l.ranks u 0 → slot l t n < slot l u n
  unfolding slot
  slot-upward t u n above = omega arith

  -- a date that is read through an arc is before the one that reads it
  pub slot-reader : IsGraph l.graph → (a n : ℕ) → a < arc_count l.graph → 1 ≤ n → slot l (arc l.graph a).from n < slot l (arc l.graph a).to (n + (arc l.graph a).tokens)
  slot-reader graph a n there one =
      let from = (arc l.graph a).from in
      let to = (arc l.graph a).to in
      elim (cases_eq (arc l.graph a).tokens 0) [
        | inl free ↦
            omega (arith, slot-upward from to n (up.upward a there free), ap (λ k. slot l to (n + k)) free, ap (slot l to) (n_plus_zero n))
        | inr some ↦ slot-earlier_job from n to (n + (arc l.graph a).tokens) (graph.starts_exist a there) one (omega arith)
      ]

-- the slot by a copy of the ranks
pub slot-by_ranks : (l : LiveGraph) (ranks : List ℕ) (t n : ℕ) → IsUpward l.graph l.ranks → ranks ≡ l.ranks → (n - 1) * length ranks + get_or ranks t 0 ≡ slot l t n
unfolding slot
slot-by_ranks l ranks t n up same =
    ap (λ (ps : List ℕ). (n - 1) * length ps + get_or ps t 0) same
    ∙ ap (λ w. (n - 1) * w + get_or l.ranks t 0) up.rank_for_each

-- the slot of the station of a rank, and of the job, that a slot's number gives
pub slot-of_number : (l : LiveGraph) (t at : ℕ) → get_or l.ranks t 0 ≡ at % stations l.graph → slot l t (at / stations l.graph + 1) ≡ at
unfolding slot
slot-of_number l t at rank =
    let width = stations l.graph in
    let job : at / width + 1 - 1 ≡ at / width = omega arith in
    ap (λ j. j * width + get_or l.ranks t 0) job ∙ ap (λ r. (at / width) * width + r) rank ∙ div-add-mod' at width

-- the job that a slot's number gives
pub job-of_number : (g : Parts) (at : ℕ) → 0 < stations g → at < date_count g → at / stations g < jobs g
job-of_number g at some low =
    (div-lt_iff_lt-mul {x = at} some).1 (omega (arith, low, mul_comm (stations g) (jobs g)))
