-- A sheet as it is made of a table: the graph's own times and demand dates, under which each date is the greatest of
-- its terms.
use Rattle.std.proofs.Common.{◌≡◌, ℕ, ◌+◌, ◌-◌, ◌<◌, ◌≤◌, Bool, false, List, [], map, length, get_or, sym, ap, ◌∙◌, subst, arith, inl, inr}
use Rattle.std.specs.List.{All, range_with_len}
use Rattle.std.specs.List.Sorted.{IsNonDecreasing}
use Rattle.std.proofs.lemmas.Bool.{true≢false, cases_eq}
use Rattle.std.proofs.lemmas.List.{ext_get_or}
use Rattle.std.proofs.lemmas.List.FromFn.{length-map-range_with_len, get_or-map-range_with_len}
use Rattle.line_base.specs.Limits.{longest_time, last_demand}
use Rattle.line_base.specs.declared.event.Parts.{Parts}
use Rattle.event_graph.specs.Network.{stations, jobs, ins, time, demand, IsGraph}
use Rattle.event_graph.specs.Limits.{IsWithinLimits}
use Rattle.event_graph.specs.Table.{date_in}
use Rattle.event_graph.specs.Term.{term}
use Rattle.event_graph.specs.Greatest.{IsGreatestOfTerms}
use Rattle.event_graph.specs.GreatestValue.{greatest}
use Rattle.event_graph.proofs.ArcNumbers.{All-ins, each_input}
use Rattle.event_graph.proofs.Greatest.{le-greatest, greatest-le}
use Rattle.live_check.specs.Order.{LiveGraph, IsRanked}
use Rattle.line_core.specs.Consistent.{due_date}
use Rattle.line_core.specs.Run.{Dates, IsLeastTable}
use Rattle.event_graph.proofs.Sizes.{time-small}
use Rattle.what_if.specs.Marks.{is_at}
use Rattle.what_if.specs.Edited.{times_of, inputs_of, edited_graph}
use Rattle.what_if.specs.Page.{Page, IsDate}
use Rattle.what_if.specs.Sheet.{HasRows, date_count, IsSheet, page_of}
use Rattle.what_if.proofs.Rows.{date_in-at}
use Rattle.what_if.proofs.Terms.{due-feed, due-other}
use Rattle.what_if.proofs.Least.{all_early}
use Rattle.what_if.proofs.Inputs.{AreShort, time-edited, edited-limits, due-own}

module _ (g : Parts) where
  -- the own times of a graph
  times-row : (t : ℕ) → t < stations g → get_or (inputs_of g).times t [] ≡ times_of g t
  unfolding inputs_of
  times-row t there = get_or-map-range_with_len (times_of g) 0 (stations g) t t [] there (omega arith)

  times-rows : length (inputs_of g).times ≡ stations g
  unfolding inputs_of
  times-rows = length-map-range_with_len (times_of g) 0 (stations g)

  length-times_of : (t : ℕ) → length (times_of g t) ≡ jobs g
  unfolding times_of
  length-times_of t = length-map-range_with_len (time g t) 1 (jobs g)

  get_or-times_of : (t k d : ℕ) → k < jobs g → get_or (times_of g t) k d ≡ time g t (k + 1)
  unfolding times_of
  get_or-times_of t k d low = get_or-map-range_with_len (time g t) 1 (jobs g) k (k + 1) d low (omega arith)

  own-rows : HasRows g (inputs_of g).times
  own-rows = record {
    row_for_each = times-rows;
    number_for_each = λ t there. ap length (times-row t there) ∙ length-times_of t;
  }

  own-short : IsWithinLimits g → AreShort g (inputs_of g).times
  own-short limits = record {
    each = λ t there.
        subst (All (λ time. time ≤ longest_time)) (sym (times-row t there)) (λ k d low.
        omega (arith, get_or-times_of t k d (omega (arith, low, length-times_of t)), time-small g t (k + 1) limits));
  }

  own-time : (t n : ℕ) → IsDate g t n → time (edited_graph g (inputs_of g)) t n ≡ time g t n
  own-time t n date =
      let back : n - 1 + 1 ≡ n = omega (arith, date.from_one) in
      time-edited g (inputs_of g) t n (omega (arith, date.station, times-rows)) date.from_one
      ∙ date_in-at (inputs_of g).times t n date.from_one
      ∙ ap (λ row. get_or row (n - 1) 0) (times-row t date.station)
      ∙ get_or-times_of t (n - 1) 0 (omega (arith, date.from_one, date.job))
      ∙ ap (time g t) back

  -- and its own demand dates
  own-demands : (inputs_of g).demands ≡ g.dates
  unfolding inputs_of demand
  own-demands =
      let many = length-map-range_with_len (demand g) 1 (jobs g) in
      ext_get_or 0 (map (demand g) (range_with_len 1 (jobs g))) g.dates many (λ k low.
      let back : k + 1 - 1 ≡ k = omega arith in
      get_or-map-range_with_len (demand g) 1 (jobs g) k (k + 1) 0 (omega (arith, low, many)) (omega arith)
      ∙ ap (λ j. get_or g.dates j 0) back)

  own-demand : (n : ℕ) → demand (edited_graph g (inputs_of g)) n ≡ demand g n
  unfolding demand
  own-demand n = ap (λ dates. get_or dates (n - 1) 0) own-demands

  own-limits : IsWithinLimits g → IsWithinLimits (edited_graph g (inputs_of g))
  own-limits limits =
      edited-limits g (inputs_of g) limits own-rows (own-short limits)
      (ap length own-demands)
      (subst IsNonDecreasing (sym own-demands) limits.demands_in_order)
      (subst (All (λ date. date ≤ last_demand)) (sym own-demands) limits.demands_small)

  -- a table whose dates are the greatest of their terms
  module _ (rows : List (List ℕ)) (graph : IsGraph g) (table : IsGreatestOfTerms g (date_in rows)) where
    due-table : (t n : ℕ) → IsDate g t n → date_in rows t n ≡ due_date g rows t n
    due-table t n date =
        elim (cases_eq t 0) [
          | inl feed ↦
              ap (λ u. date_in rows u n) feed
              ∙ table.feed (omega (arith, date.station)) n date.from_one date.job
              ∙ sym (due-feed g rows n)
              ∙ ap (λ u. due_date g rows u n) (sym feed)
          | inr other ↦
              let asks = λ (a : ℕ). term g (date_in rows) a n in
              let is = table.others t n (omega (arith, other)) date.station date.from_one date.job in
              let below = greatest-le asks (ins g t) (date_in rows t n) (λ k d low. is.at_least (get_or (ins g t) k d) (All-ins g t k d low)) in
              let above = each_input g t (λ a. asks a ≤ greatest asks (ins g t)) (le-greatest asks (ins g t)) is.last is.enters.0 is.enters.1 in
              omega (arith, due-other g rows t n other, below, above, is.equal)
        ]

    own-due : (t n : ℕ) → IsDate g t n → date_in rows t n ≡ due_date (edited_graph g (inputs_of g)) rows t n
    own-due t n date =
        due-table t n date
        ∙ sym (due-own g (inputs_of g) rows t n (λ feed. own-demand n) (λ other. own-time t n date))

module _ (l : LiveGraph) (ranked : IsRanked l) (d : Dates) (same : d.graph ≡ l.graph) (least : IsLeastTable d) (marks : List Bool) (room : date_count l.graph ≤ length marks) (none : (k : ℕ) → is_at marks k ≡ false) where
  begun : Page
  begun = record { live = l; inputs = inputs_of l.graph; first = d.rows; dates = d.rows; marks = marks; evaluations = 0 }

  table-rows : HasRows l.graph d.rows
  table-rows = subst (λ (g : Parts). HasRows g d.rows) same (record { row_for_each = least.a_row_each; number_for_each = least.a_date_each })

  table-due : (t n : ℕ) → IsDate l.graph t n → date_in d.rows t n ≡ due_date (edited_graph l.graph (inputs_of l.graph)) d.rows t n
  table-due = own-due l.graph d.rows ranked.sound (subst (λ (g : Parts). IsGreatestOfTerms g (date_in d.rows)) same least.greatest)

  pub begun-is_sheet : IsSheet (record { live = l; inputs = inputs_of l.graph; first = d.rows; dates = d.rows; marks = marks; evaluations = 0 })
  begun-is_sheet = record {
    ranked = ranked;
    limits = own-limits l.graph ranked.limits;
    demand_for_each = ap length (own-demands l.graph);
    times = own-rows l.graph;
    first = table-rows;
    dates = table-rows;
    room = room;
    marks_exist = λ k is. absurd (true≢false (sym is ∙ none k));
    early = all_early l (inputs_of l.graph) ranked.sound ranked.upward d.rows (own-limits l.graph ranked.limits) table-due;
    greatest = λ t n date unmarked. table-due t n date;
  }

-- the page of the parts that a sheet is made of
pub begun-code : (l made : LiveGraph) (g : Parts) (times : List (List ℕ)) (demands : List ℕ) (first dates rows : List (List ℕ)) (marks : List Bool) → made ≡ l → g ≡ l.graph → times ≡ (inputs_of g).times → demands ≡ (inputs_of g).demands → first ≡ rows → dates ≡ rows → page_of made times demands first dates marks 0 ≡ record { live = l; inputs = inputs_of l.graph; first = rows; dates = rows; marks = marks; evaluations = 0 }
begun-code l made g times demands first dates rows marks live_is graph_is times_are demands_are first_are dates_are =
    ap (λ m. page_of m times demands first dates marks 0) live_is
    ∙ ap (λ ts. page_of l ts demands first dates marks 0) (times_are ∙ ap (λ h. (inputs_of h).times) graph_is)
    ∙ ap (λ ds. page_of l (inputs_of l.graph).times ds first dates marks 0) (demands_are ∙ ap (λ h. (inputs_of h).demands) graph_is)
    ∙ ap (λ xs. page_of l (inputs_of l.graph).times (inputs_of l.graph).demands xs dates marks 0) first_are
    ∙ ap (λ xs. page_of l (inputs_of l.graph).times (inputs_of l.graph).demands rows xs marks 0) dates_are
