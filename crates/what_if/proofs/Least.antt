-- Where each date is the greatest of its terms in a graph whose arcs without tokens go upwards, the dates are the least
-- solution, and none is late: one induction over the order of evaluation each.
use Rattle.std.proofs.Common.{◌≡◌, ℕ, zero, suc, ◌+◌, ◌-◌, ◌<◌, ◌≤◌, List, length, ap, arith, inl, inr}
use Rattle.std.proofs.lemmas.Bool.{cases_lt}
use Rattle.std.proofs.lemmas.List.{get_or_past}
use Rattle.line_base.specs.Limits.{last_demand}
use Rattle.line_base.specs.declared.event.Parts.{Parts}
use Rattle.event_graph.specs.Network.{stations, jobs, arc, demand, IsGraph, EndsAt}
use Rattle.event_graph.specs.Limits.{IsWithinLimits}
use Rattle.event_graph.specs.Table.{Table, date_in}
use Rattle.event_graph.specs.Term.{term, work}
use Rattle.event_graph.specs.Solves.{Solves}
use Rattle.event_graph.specs.Least.{IsLeast}
use Rattle.live_check.specs.Order.{LiveGraph, IsUpward}
use Rattle.line_core.specs.Consistent.{due_date}
use Rattle.event_graph.proofs.Sizes.{work-small, delay-small}
use Rattle.what_if.specs.Edited.{Inputs, edited_graph}
use Rattle.what_if.specs.Page.{IsDate, slot}
use Rattle.what_if.specs.Sheet.{latest_at}
use Rattle.what_if.proofs.SlotOrder.{slot-reader}
use Rattle.what_if.proofs.Terms.{due-feed, due-le, term-le, term-le-due}
use Rattle.event_graph.proofs.ArcTerms.{term-later}

-- no demand date is late
demand-early : (g : Parts) (n : ℕ) → IsWithinLimits g → demand g n ≤ last_demand
unfolding demand
demand-early g n limits =
    elim (cases_lt (n - 1) (length g.dates)) [
      | inl low ↦ limits.demands_small (n - 1) 0 low
      | inr past ↦ omega (arith, get_or_past g.dates (n - 1) 0 past)
    ]

-- the edited graph is a graph
pub edited-graph : (g : Parts) (i : Inputs) → IsGraph g → IsGraph (edited_graph g i)
edited-graph g i graph = record {
  starts_exist = graph.starts_exist;
  ends_exist = graph.ends_exist;
  feed_has_no_input = graph.feed_has_no_input;
  others_have_input = graph.others_have_input;
}

work-le : (g : Parts) (x : Table) (a n most : ℕ) → term g x a n ≤ most → work g a n ≤ most
work-le g x a n most le = omega arith

module _ (l : LiveGraph) (i : Inputs) (graph : IsGraph l.graph) (up : IsUpward l.graph l.ranks) where
  -- the date that a term reads is there, and before it
  pub read-date : (a t n : ℕ) → EndsAt l.graph t a → IsDate l.graph t n → (arc l.graph a).tokens < n → IsDate l.graph (arc l.graph a).from (n - (arc l.graph a).tokens)
  read-date a t n enters date later = record {
    station = graph.starts_exist a enters.0;
    from_one = omega arith;
    job = omega (arith, date.job);
  }

  pub read-before : (a t n : ℕ) → EndsAt l.graph t a → (arc l.graph a).tokens < n → slot l (arc l.graph a).from (n - (arc l.graph a).tokens) < slot l t n
  read-before a t n enters later =
      let tokens = (arc l.graph a).tokens in
      let back : n - tokens + tokens ≡ n = omega arith in
      omega (arith, slot-reader l up graph a (n - tokens) enters.0 (omega arith), ap (slot l (arc l.graph a).to) back, ap (λ u. slot l u n) enters.1)

  module _ (rows : List (List ℕ)) (limits : IsWithinLimits (edited_graph l.graph i)) where
    -- where the dates before it are not late, neither is the greatest of the terms
    pub due-early : (t n : ℕ) → IsDate l.graph t n → ((u m : ℕ) → IsDate l.graph u m → slot l u m < slot l t n → date_in rows u m ≤ latest_at (slot l u m)) → due_date (edited_graph l.graph i) rows t n ≤ latest_at (slot l t n)
    due-early t n date before =
        let g = edited_graph l.graph i in
        let most = latest_at (slot l t n) in
        due-le g rows t n most
        (λ feed. omega (arith, demand-early g n limits))
        (λ a enters. term-le g (date_in rows) a n most
        (omega (arith, work-small g a n limits))
        (λ later.
        let from = (arc l.graph a).from in
        let job = n - (arc l.graph a).tokens in
        let earlier = read-before a t n enters later in
        omega (arith, work-small g a n limits, delay-small g a limits, before from job (read-date a t n enters date later) earlier, earlier)))

    module _ (due : (t n : ℕ) → IsDate l.graph t n → date_in rows t n ≡ due_date (edited_graph l.graph i) rows t n) where
      early-below : (k t n : ℕ) → IsDate l.graph t n → slot l t n < k → date_in rows t n ≤ latest_at (slot l t n)
      early-below zero t n date low = absurd (omega arith)
      early-below (suc k) t n date low =
          omega (arith, due t n date, due-early t n date (λ u m read before. early-below k u m read (omega arith)))

      pub all_early : (t n : ℕ) → IsDate l.graph t n → date_in rows t n ≤ latest_at (slot l t n)
      all_early t n date = early-below (slot l t n + 1) t n date (omega arith)

  module _ (rows : List (List ℕ)) (many : length i.demands ≡ jobs l.graph) (some : 1 ≤ stations l.graph) (due : (t n : ℕ) → IsDate l.graph t n → date_in rows t n ≡ due_date (edited_graph l.graph i) rows t n) where
    solved : Solves (edited_graph l.graph i) (date_in rows)
    solved =
        let g = edited_graph l.graph i in
        record {
          feed = λ n one within.
              omega (arith, due 0 n (record { station = omega arith; from_one = one; job = omega (arith, many) }), due-feed g rows n);
          others = λ a n there one within.
              let date : IsDate l.graph (arc l.graph a).to n = record { station = graph.ends_exist a there; from_one = one; job = omega (arith, many) } in
              omega (arith, due (arc l.graph a).to n date, term-le-due g rows a n (edited-graph l.graph i graph) there);
        }

    module _ (y : Table) (solves : Solves (edited_graph l.graph i) y) where
      not_above : (k t n : ℕ) → IsDate l.graph t n → slot l t n < k → date_in rows t n ≤ y t n
      not_above zero t n date low = absurd (omega arith)
      not_above (suc k) t n date low =
          let g = edited_graph l.graph i in
          let most = y t n in
          let greatest = due-le g rows t n most
          (λ feed. omega (arith, solves.feed n date.from_one (omega (arith, date.job, many)), ap (λ u. y u n) feed))
          (λ a enters.
          let asked : term g y a n ≤ most = omega (arith, solves.others a n enters.0 date.from_one (omega (arith, date.job, many)), ap (λ u. y u n) enters.1) in
          term-le g (date_in rows) a n most
          (work-le g y a n most asked)
          (λ later.
          let from = (arc l.graph a).from in
          let job = n - (arc l.graph a).tokens in
          let read = not_above k from job (read-date a t n enters date later) (omega (arith, read-before a t n enters later)) in
          omega (arith, read, term-later g y a n later, asked))) in
          omega (arith, due t n date, greatest)

    pub greatest_is_least : IsLeast (edited_graph l.graph i) (date_in rows)
    greatest_is_least = record {
      solves = solved;
      least = λ y solves t n there one within.
          not_above y solves (slot l t n + 1) t n (record { station = there; from_one = one; job = omega (arith, many) }) (omega arith);
    }
