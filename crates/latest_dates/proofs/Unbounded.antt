-- Where there is no latest date, tables that solve the graph and serve are as late as one likes: the latest dates where
-- there are some, and elsewhere the dates of a table that serves, all later by one number.
use Rattle.std.proofs.Common.{◌≡◌, ℕ, zero, suc, ◌+◌, ◌-◌, ◌<◌, ◌≤◌, max, sym, ap, subst, arith, inl, inr}
use Rattle.std.specs.Prelude.{Option, None, Some}
use Rattle.std.proofs.lemmas.Bool.{cases_lt, cases_eq}
use Rattle.line_base.specs.declared.event.Parts.{Parts}
use Rattle.event_graph.specs.Network.{stations, jobs, arc, arc_count, demand, delay, IsGraph, StartsAt}
use Rattle.event_graph.specs.Table.{Table}
use Rattle.event_graph.specs.Term.{work, term}
use Rattle.event_graph.specs.Solves.{Solves}
use Rattle.live_check.specs.Order.{LiveGraph, IsUpward}
use Rattle.what_if.specs.Page.{IsDate, slot}
use Rattle.latest_dates.specs.Latest.{LatestTable, IsNoLater, AreLatest, promised_date, put_by, bound}
use Rattle.latest_dates.specs.Laws.{IsServed, term_of, IsServedBeyond}
use Rattle.latest_dates.proofs.Earliest.{IsWithin}
use Rattle.latest_dates.proofs.FromLast.{OfReaders, from_last}
use Rattle.latest_dates.proofs.EarliestBounds.{bound-read, bound-past, promised-last, promised-other, within-bounds, term-sent, term-initial}
use Rattle.latest_dates.proofs.LatestSolution.{late_term-sent, late_term-initial, latest_serve, latest_solve}

-- ---- no latest date is above the last promise

-- the first numbers have a greatest value
has_most : (f : ℕ → ℕ) (n : ℕ) → (most : ℕ) × ((k : ℕ) → k ≤ n → f k ≤ most)
has_most f zero = (f 0, λ k low. let is : 0 ≡ k = omega arith in subst (λ j. f j ≤ f 0) is (omega arith))
has_most f (suc n) =
    let rest = has_most f n in
    let top = max (f (suc n)) rest.0 in (
      top,
      λ k low. elim (cases_lt k (suc n)) [
        | inl before ↦ omega (arith, rest.1 k (omega arith))
        | inr last ↦ let is : suc n ≡ k = omega arith in subst (λ j. f j ≤ top) is (omega arith)
      ],
    )

within-put : (g : Parts) (a m most : ℕ) (o : Option ℕ) → IsWithin most o → IsWithin most (put_by g a m o)
within-put g a m most None h = tt
within-put g a m most (Some date) h = omega arith

-- later by `more`, where there is no latest date
unfoldable later_by : ℕ → ℕ → Option ℕ → ℕ
later_by more date None = date + more
later_by more date (Some latest) = latest

later_by-none : (more date : ℕ) (o : Option ℕ) → o ≡ None → later_by more date o ≡ date + more
unfolding later_by
later_by-none more date o none = ap (later_by more date) none

-- what is within a bound in the terms of the graph stays so
later_start : (work more date least : ℕ) (to : Option ℕ) → work ≤ least → IsNoLater (Some work) to → work ≤ later_by more least to
unfolding later_by
later_start work more date least None asks h = omega arith
later_start work more date least (Some end) asks h = h

later_sent : (g : Parts) (a n more date least : ℕ) (from to : Option ℕ) → IsNoLater (term_of g a n from) to → IsWithin more from → work g a n + (date + delay g a) ≤ least → work g a n + (later_by more date from + delay g a) ≤ later_by more least to
unfolding later_by
later_sent g a n more date least None None put early asks = omega arith
later_sent g a n more date least (Some begin) None put early asks = omega arith
later_sent g a n more date least None (Some end) put early asks = absurd put
later_sent g a n more date least (Some begin) (Some end) put early asks = put

later_served : (more date most : ℕ) (o : Option ℕ) → IsNoLater o (Some most) → later_by more date o ≤ most
unfolding later_by
later_served more date most None h = absurd h
later_served more date most (Some latest) h = h

module _ (l : LiveGraph) (up : IsUpward l.graph l.ranks) (graph : IsGraph l.graph) (may : ℕ) (y : LatestTable) (latest : AreLatest l.graph may y) where
  module _ (most : ℕ) (above : (n : ℕ) → n ≤ jobs l.graph → demand l.graph n + may ≤ most) where
    Within : ℕ → ℕ → Type 0
    Within t n = IsWithin most (y t n)

    by_promise : (t n : ℕ) → IsDate l.graph t n → IsWithin most (promised_date l.graph may t n)
    by_promise t n date =
        elim (cases_eq t (stations l.graph - 1)) [
          | inl last ↦ subst (IsWithin most) (sym (promised-last l.graph may t n last)) (above n date.job)
          | inr other ↦ subst (IsWithin most) (sym (promised-other l.graph may t n other)) tt
        ]

    by_reader : (t n : ℕ) → OfReaders l.graph Within t n → (a : ℕ) → StartsAt l.graph t a → IsWithin most (bound l.graph y n a)
    unfolding Within
    by_reader t n readers a starts =
        let g = l.graph in
        let job = n + (arc g a).tokens in
        elim (cases_lt (jobs g) job) [
          | inl past ↦ subst (IsWithin most) (sym (bound-past g y n a past)) tt
          | inr inside ↦ subst (IsWithin most) (sym (bound-read g y n a inside)) (within-put g a job most (y (arc g a).to job) (readers a starts inside))
        ]

    step : (t n : ℕ) → IsDate l.graph t n → 0 ≤ slot l t n → OfReaders l.graph Within t n → Within t n
    unfolding Within
    step t n date from readers =
        subst (IsWithin most) (sym (latest.each t n date)) (within-bounds most l.graph may y t n (by_promise t n date) (by_reader t n readers))

    all_within : (t n : ℕ) → IsDate l.graph t n → IsWithin most (y t n)
    unfolding Within
    all_within t n date = from_last l up graph 0 Within step t n date (omega arith)

  -- ---- the table

  module _ (x : Table) (solves : Solves l.graph x) (served : IsServed l.graph may x) (some : 1 ≤ stations l.graph) (more : ℕ) (within : (t n : ℕ) → IsDate l.graph t n → IsWithin more (y t n)) where
    moved : Table
    moved t n = later_by more (x t n) (y t n)

    term_moved : (a n : ℕ) → a < arc_count l.graph → 1 ≤ n → n ≤ jobs l.graph → term l.graph moved a n ≤ moved (arc l.graph a).to n
    unfolding moved
    term_moved a n there one inside =
        let g = l.graph in
        let k = (arc g a).tokens in
        let from = (arc g a).from in
        let to = (arc g a).to in
        let solved = (latest_solve l up graph may x solves served y latest some).others a n there one inside in
        let asks = solves.others a n there one inside in
        elim (cases_lt k n) [
          | inl later ↦
              let m = n - k in
              let job : m + k ≡ n = omega arith in
              let from_one : 1 ≤ m = omega arith in
              let begin : IsDate g from m = record { station = graph.starts_exist a there; from_one = from_one; job = omega (arith, inside) } in
              let put = subst (λ o. IsNoLater o (y to n)) (late_term-sent g y a n later) solved in
              let old : term g x a n ≡ work g a n + (x from m + delay g a) = subst (λ j. term g x a j ≡ work g a j + (x from m + delay g a)) job (term-sent g x a m from_one) in
              let new : term g moved a n ≡ work g a n + (moved from m + delay g a) = subst (λ j. term g moved a j ≡ work g a j + (moved from m + delay g a)) job (term-sent g moved a m from_one) in
              let sent_later = later_sent g a n more (x from m) (x to n) (y from m) (y to n) put (within from m begin) (omega (arith, asks, old)) in
              omega (arith, new, sent_later)
          | inr initial ↦
              let put = subst (λ o. IsNoLater o (y to n)) (late_term-initial g y a n initial) solved in
              let old = term-initial g x a n initial in
              let new = term-initial g moved a n initial in
              let begun = later_start (work g a n) more 0 (x to n) (y to n) (omega (arith, asks, old)) put in
              omega (arith, new, begun)
        ]

    moved_solves : Solves l.graph moved
    unfolding moved
    moved_solves = record {
      feed = λ n one inside. later_start (demand l.graph n) more 0 (x 0 n) (y 0 n) (solves.feed n one inside) ((latest_solve l up graph may x solves served y latest some).feed n one inside);
      others = term_moved;
    }

    moved_serves : IsServed l.graph may moved
    unfolding moved
    moved_serves n one inside =
        later_served more (x (stations l.graph - 1) n) (demand l.graph n + may) (y (stations l.graph - 1) n) (latest_serve l.graph graph may y latest some n one inside)

    moved_beyond : (t n late : ℕ) → y t n ≡ None → late < more → IsServedBeyond l.graph may t n late moved
    unfolding moved
    moved_beyond t n late none less = record {
      solves = moved_solves;
      serves = moved_serves;
      beyond = omega (arith, later_by-none more (x t n) (y t n) none);
    }

  within-more : (low high : ℕ) (o : Option ℕ) → low ≤ high → IsWithin low o → IsWithin high o
  within-more low high None less h = tt
  within-more low high (Some date) less h = omega arith

  pub none_unbounded : (x : Table) → Solves l.graph x → IsServed l.graph may x → 1 ≤ stations l.graph → (t n : ℕ) → y t n ≡ None → (late : ℕ) → (z : Table) × IsServedBeyond l.graph may t n late z
  none_unbounded x solves served some t n none late =
      let top = has_most (λ k. demand l.graph k + may) (jobs l.graph) in
      let more = top.0 + late + 1 in
      let within : (u m : ℕ) → IsDate l.graph u m → IsWithin more (y u m) = λ u m date. within-more top.0 more (y u m) (omega arith) (all_within top.0 top.1 u m date) in
      (moved x solves served some more within, moved_beyond x solves served some more within t n late none (omega arith))
