-- The indices of the latest dates in their list, where those of a station follow one another: each date has its own.
use Rattle.std.proofs.Common.{◌≡◌, ℕ, ◌+◌, ◌-◌, ◌*◌, ◌<◌, ◌≤◌, sym, ap, ◌∙◌, arith, inl, inr}
use Rattle.std.proofs.Math.Nat.{mul-le-mul_right}
use Rattle.std.proofs.lemmas.Bool.{cases_lt}
use Rattle.line_base.specs.declared.event.Parts.{Parts}
use Rattle.event_graph.specs.Network.{stations, jobs}
use Rattle.what_if.specs.Page.{IsDate}
use Rattle.what_if.specs.Sheet.{date_count}
use Rattle.latest_dates.specs.Found.{date_index}

-- all indices of a station are before those of a later one
before_station : (t u width p : ℕ) → t < u → p < width → t * width + p < u * width
before_station t u width p earlier within =
    omega (arith, mul-le-mul_right {m = t + 1} {n = u} width (omega arith))

module _ (g : Parts) where
  pub date_index-below : (t n : ℕ) → IsDate g t n → date_index g t n < date_count g
  unfolding date_index
  date_index-below t n date =
      before_station t (stations g) (jobs g) (n - 1) date.station (omega (arith, date.from_one, date.job))

  date_index-earlier_station : (t n u m : ℕ) → IsDate g t n → t < u → date_index g t n < date_index g u m
  unfolding date_index
  date_index-earlier_station t n u m date earlier =
      omega (arith, before_station t u (jobs g) (n - 1) earlier (omega (arith, date.from_one, date.job)))

  pub date_index-station : (t n u m : ℕ) → IsDate g t n → IsDate g u m → date_index g t n ≡ date_index g u m → t ≡ u
  date_index-station t n u m here there same =
      elim (cases_lt t u) [
        | inl before ↦ absurd (omega (arith, date_index-earlier_station t n u m here before))
        | inr after ↦ elim (cases_lt u t) [
          | inl later ↦ absurd (omega (arith, date_index-earlier_station u m t n there later))
          | inr equal ↦ omega arith
        ]
      ]

  date_index-same_station : (t n m : ℕ) → 1 ≤ n → 1 ≤ m → date_index g t n ≡ date_index g t m → n ≡ m
  unfolding date_index
  date_index-same_station t n m one other same = omega arith

  pub date_index-job : (t n u m : ℕ) → IsDate g t n → IsDate g u m → date_index g t n ≡ date_index g u m → n ≡ m
  date_index-job t n u m here there same =
      let station = date_index-station t n u m here there same in
      date_index-same_station t n m here.from_one there.from_one (same ∙ ap (λ s. date_index g s m) (sym station))
