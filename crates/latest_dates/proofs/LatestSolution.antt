-- The latest dates solve the graph and serve, where some table does.
use Rattle.std.proofs.Common.{◌≡◌, ℕ, ◌+◌, ◌-◌, ◌<◌, ◌≤◌, ltb, refl, sym, ap, ◌∙◌, subst, arith, inl, inr}
use Rattle.std.specs.Prelude.{Option, None, Some}
use Rattle.std.proofs.lemmas.Bool.{cases_lt, cond-true, cond-false, lt-ltb, le-ltb}
use Rattle.line_base.specs.declared.event.Parts.{Parts}
use Rattle.event_graph.specs.Network.{stations, jobs, arc, arc_count, demand, delay, IsGraph}
use Rattle.event_graph.specs.Table.{Table}
use Rattle.event_graph.specs.Term.{work, term}
use Rattle.event_graph.specs.Solves.{Solves}
use Rattle.live_check.specs.Order.{LiveGraph, IsUpward}
use Rattle.what_if.specs.Page.{IsDate}
use Rattle.latest_dates.specs.Latest.{LatestTable, AreLatest, put_by, IsNoLater}
use Rattle.latest_dates.specs.Laws.{IsServed, term_of, late_term, SolvesWithNone, AreDates}
use Rattle.latest_dates.proofs.Earliest.{no_later-self}
use Rattle.latest_dates.proofs.EarliestBounds.{bound-read, promised-last, no_later-promised, no_later-bound, term-sent, term-initial}
use Rattle.latest_dates.proofs.NoneLater.{none_later}

pub no_later-less : (low high : ℕ) (o : Option ℕ) → low ≤ high → IsNoLater (Some high) o → IsNoLater (Some low) o
no_later-less low high None less late = tt
no_later-less low high (Some date) less late = omega arith

-- what is put in time is sent in time, where the date isn't before what some date asks
sent_in_time : (g : Parts) (a n date least : ℕ) (from to : Option ℕ) → IsNoLater from (put_by g a n to) → work g a n + (date + delay g a) ≤ least → IsNoLater (Some least) to → IsNoLater (term_of g a n from) to
sent_in_time g a n date least from None put asks late = tt
sent_in_time g a n date least None (Some end) put asks late = put
sent_in_time g a n date least (Some begin) (Some end) put asks late = omega arith

pub late_term-sent : (g : Parts) (y : LatestTable) (a n : ℕ) → (arc g a).tokens < n → late_term g y a n ≡ term_of g a n (y (arc g a).from (n - (arc g a).tokens))
late_term-sent g y a n later =
    cond-true (ltb (arc g a).tokens n) (term_of g a n (y (arc g a).from (n - (arc g a).tokens))) (Some (work g a n)) (lt-ltb (arc g a).tokens n later)

pub late_term-initial : (g : Parts) (y : LatestTable) (a n : ℕ) → n ≤ (arc g a).tokens → late_term g y a n ≡ Some (work g a n)
late_term-initial g y a n initial =
    cond-false (ltb (arc g a).tokens n) (term_of g a n (y (arc g a).from (n - (arc g a).tokens))) (Some (work g a n)) (le-ltb (arc g a).tokens n initial)

-- no date is later than what it bounds
pub bounded : (g : Parts) (may : ℕ) (y : LatestTable) → AreLatest g may y → (a n : ℕ) → IsDate g (arc g a).from n → a < arc_count g → n + (arc g a).tokens ≤ jobs g → IsNoLater (y (arc g a).from n) (put_by g a (n + (arc g a).tokens) (y (arc g a).to (n + (arc g a).tokens)))
bounded g may y latest a n date there inside =
    let t = (arc g a).from in
    let least = subst (IsNoLater (y t n)) (latest.each t n date) (no_later-self (y t n)) in
    subst (IsNoLater (y t n)) (bound-read g y n a inside) (no_later-bound (y t n) g may y t n least a (there, refl))

pub latest_serve : (g : Parts) → IsGraph g → (may : ℕ) (y : LatestTable) → AreLatest g may y → 1 ≤ stations g → (n : ℕ) → 1 ≤ n → n ≤ jobs g → IsNoLater (y (stations g - 1) n) (Some (demand g n + may))
latest_serve g graph may y latest some n one inside =
    let t = stations g - 1 in
    let date : IsDate g t n = record { station = omega arith; from_one = one; job = inside } in
    let least = subst (IsNoLater (y t n)) (latest.each t n date) (no_later-self (y t n)) in
    subst (IsNoLater (y t n)) (promised-last g may t n refl) (no_later-promised (y t n) g may y t n least)

module _ (l : LiveGraph) (up : IsUpward l.graph l.ranks) (graph : IsGraph l.graph) (may : ℕ) (x : Table) (solves : Solves l.graph x) (served : IsServed l.graph may x) (y : LatestTable) (latest : AreLatest l.graph may y) where
  pub not_before : (t n : ℕ) → IsDate l.graph t n → IsNoLater (Some (x t n)) (y t n)
  not_before t n date = none_later l up graph may y 0 (λ u m there from. latest.each u m there) x solves served t n date (omega arith)

  term_in_time : (a n : ℕ) → a < arc_count l.graph → IsDate l.graph (arc l.graph a).to n → IsNoLater (late_term l.graph y a n) (y (arc l.graph a).to n)
  term_in_time a n there date =
      let g = l.graph in
      let k = (arc g a).tokens in
      let from = (arc g a).from in
      let to = (arc g a).to in
      let asks = solves.others a n there date.from_one date.job in
      elim (cases_lt k n) [
        | inl later ↦
            let m = n - k in
            let job : m + k ≡ n = omega arith in
            let begin : IsDate g from m = record { station = graph.starts_exist a there; from_one = omega arith; job = omega (arith, date.job) } in
            let put = subst (λ j. IsNoLater (y from m) (put_by g a j (y to j))) job (bounded g may y latest a m begin there (omega (arith, date.job))) in
            let is : term g x a n ≡ work g a n + (x from m + delay g a) = subst (λ j. term g x a j ≡ work g a j + (x from m + delay g a)) job (term-sent g x a m begin.from_one) in
            subst (λ o. IsNoLater o (y to n)) (sym (late_term-sent g y a n later))
            (sent_in_time g a n (x from m) (x to n) (y from m) (y to n) put (omega (arith, asks, is)) (not_before to n date))
        | inr initial ↦
            subst (λ o. IsNoLater o (y to n)) (sym (late_term-initial g y a n initial))
            (no_later-less (work g a n) (x to n) (y to n) (omega (arith, asks, term-initial g x a n initial)) (not_before to n date))
      ]

  pub latest_solve : 1 ≤ stations l.graph → SolvesWithNone l.graph y
  latest_solve some = record {
    feed = λ n one inside. no_later-less (demand l.graph n) (x 0 n) (y 0 n) (solves.feed n one inside) (not_before 0 n (record { station = omega arith; from_one = one; job = inside }));
    others = λ a n there one inside. term_in_time a n there (record { station = graph.ends_exist a there; from_one = one; job = inside });
  }

  -- a table of them, where none is none, solves the graph
  pub latest_solve_as_table : 1 ≤ stations l.graph → (z : Table) → AreDates l.graph y z → Solves l.graph z
  latest_solve_as_table some z dates =
      let g = l.graph in
      let solved = latest_solve some in
      record {
        feed = λ n one inside. subst (IsNoLater (Some (demand g n))) (dates 0 n (record { station = omega arith; from_one = one; job = inside })) (solved.feed n one inside);
        others = λ a n there one inside.
            let to = (arc g a).to in
            let end : IsDate g to n = record { station = graph.ends_exist a there; from_one = one; job = inside } in
            let ends = subst (IsNoLater (late_term g y a n)) (dates to n end) (solved.others a n there one inside) in
            elim (cases_lt (arc g a).tokens n) [
              | inl later ↦
                  let m = n - (arc g a).tokens in
                  let from = (arc g a).from in
                  let job : m + (arc g a).tokens ≡ n = omega arith in
                  let begin : IsDate g from m = record { station = graph.starts_exist a there; from_one = omega arith; job = omega (arith, inside) } in
                  let is : term g z a n ≡ work g a n + (z from m + delay g a) = subst (λ j. term g z a j ≡ work g a j + (z from m + delay g a)) job (term-sent g z a m begin.from_one) in
                  let term_is = late_term-sent g y a n later ∙ ap (term_of g a n) (dates from m begin) in
                  let low : work g a n + (z from m + delay g a) ≤ z to n = subst (λ o. IsNoLater o (Some (z to n))) term_is ends in
                  omega (arith, is, low)
              | inr initial ↦
                  let low : work g a n ≤ z to n = subst (λ o. IsNoLater o (Some (z to n))) (late_term-initial g y a n initial) ends in
                  omega (arith, term-initial g z a n initial, low)
            ];
      }
