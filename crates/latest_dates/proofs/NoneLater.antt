-- No table that solves the graph and serves is later than the latest dates.
use Rattle.std.proofs.Common.{ℕ, ◌+◌, ◌-◌, ◌≤◌, sym, ap, subst, arith, inl, inr}
use Rattle.std.specs.Prelude.{Option, None, Some}
use Rattle.std.proofs.lemmas.Bool.{cases_lt, cases_eq}
use Rattle.line_base.specs.declared.event.Parts.{Parts}
use Rattle.event_graph.specs.Network.{stations, jobs, arc, demand, delay, IsGraph, StartsAt}
use Rattle.event_graph.specs.Table.{Table}
use Rattle.event_graph.specs.Term.{work}
use Rattle.event_graph.specs.Solves.{Solves}
use Rattle.live_check.specs.Order.{LiveGraph, IsUpward}
use Rattle.what_if.specs.Page.{IsDate, slot}
use Rattle.latest_dates.specs.Latest.{LatestTable, promised_date, put_by, bound, IsNoLater}
use Rattle.latest_dates.specs.Laws.{IsServed}
use Rattle.latest_dates.specs.Pass.{AreLatestFrom}
use Rattle.latest_dates.proofs.FromLast.{OfReaders, from_last}
use Rattle.latest_dates.proofs.EarliestBounds.{bound-read, bound-past, promised-last, promised-other, no_later-bounds, term-sent}

-- a token that is put in time for a date is put in time for every later one
late_put : (g : Parts) (a m date least : ℕ) (o : Option ℕ) → work g a m + (date + delay g a) ≤ least → IsNoLater (Some least) o → IsNoLater (Some date) (put_by g a m o)
late_put g a m date least None early late = tt
late_put g a m date least (Some other) early late = omega arith

module _ (l : LiveGraph) (up : IsUpward l.graph l.ranks) (graph : IsGraph l.graph) (may : ℕ) (y : LatestTable) (at : ℕ) (latest : AreLatestFrom l may y at) (z : Table) (solves : Solves l.graph z) (served : IsServed l.graph may z) where
  LaterThan : ℕ → ℕ → Type 0
  LaterThan t n = IsNoLater (Some (z t n)) (y t n)

  by_promise : (t n : ℕ) → IsDate l.graph t n → IsNoLater (Some (z t n)) (promised_date l.graph may t n)
  by_promise t n date =
      elim (cases_eq t (stations l.graph - 1)) [
        | inl last ↦
            let in_time : z t n ≤ demand l.graph n + may = omega (arith, ap (λ u. z u n) last, served n date.from_one date.job) in
            subst (IsNoLater (Some (z t n))) (sym (promised-last l.graph may t n last)) in_time
        | inr other ↦ subst (IsNoLater (Some (z t n))) (sym (promised-other l.graph may t n other)) tt
      ]

  by_reader : (t n : ℕ) → IsDate l.graph t n → OfReaders l.graph LaterThan t n → (a : ℕ) → StartsAt l.graph t a → IsNoLater (Some (z t n)) (bound l.graph y n a)
  unfolding LaterThan
  by_reader t n date readers a starts =
      let g = l.graph in
      let job = n + (arc g a).tokens in
      elim (cases_lt (jobs g) job) [
        | inl past ↦ subst (IsNoLater (Some (z t n))) (sym (bound-past g y n a past)) tt
        | inr inside ↦
            let asks = solves.others a job starts.0 (omega (arith, date.from_one)) inside in
            let early : work g a job + (z t n + delay g a) ≤ z (arc g a).to job = omega (arith, asks, term-sent g z a n date.from_one, ap (λ u. z u n) starts.1) in
            subst (IsNoLater (Some (z t n))) (sym (bound-read g y n a inside)) (late_put g a job (z t n) (z (arc g a).to job) (y (arc g a).to job) early (readers a starts inside))
      ]

  step : (t n : ℕ) → IsDate l.graph t n → at ≤ slot l t n → OfReaders l.graph LaterThan t n → LaterThan t n
  unfolding LaterThan
  step t n date from readers =
      subst (IsNoLater (Some (z t n))) (sym (latest t n date from))
      (no_later-bounds (Some (z t n)) l.graph may y t n (by_promise t n date) (by_reader t n date readers))

  pub none_later : (t n : ℕ) → IsDate l.graph t n → at ≤ slot l t n → IsNoLater (Some (z t n)) (y t n)
  unfolding LaterThan
  none_later t n date from = from_last l up graph at LaterThan step t n date from
