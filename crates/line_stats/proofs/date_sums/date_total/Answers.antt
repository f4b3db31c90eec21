use Rattle.std.proofs.Common.{◌≡◌, ℕ, ◌+◌, ◌*◌, ◌^◌, ◌<◌, ◌≤◌, [], get_or, length, sym, ◌∙◌, ap, sum, arith}
use Rattle.std.specs.List.{sum_by, range_with_len}
use Rattle.event_graph.specs.Network.{jobs, stations}
use Rattle.event_graph.specs.Table.{date_in}
use Rattle.line_core.specs.Consistent.{LATEST_DATE}
use Rattle.line_stats.specs.Counts.{job_numbers}
use Rattle.line_stats.specs.DateSums.{date_total}
use Rattle.line_stats.proofs.RisingDates.{date-row}
use Rattle.line_stats.proofs.DateSums.{sum_by-range-more, sum-row, sum-row-small}
use Rattle.line_stats.proofs.date_sums.date_total.Goals as goal

pub row_total-total-requires : goal.row_total-total-requires
row_total-total-requires c =
    let table = c.dates.ensures.least in
    let exists : c.loop-t.t < stations c.args.table.now.graph = omega (arith, c.stations-t-end.ensures.stations) in
    let long = ap length c.dates.ensures.dates ∙ table.a_date_each c.loop-t.t exists in
    omega (arith, long, table.limits.few_jobs)

-- the sum of the dates of the station in hand, and that it is small
module _ (c : goal.After-row_total-total) where
  here : c.row_total-total.result ≡ sum_by (date_in c.args.table.now.rows c.loop-t.t) (job_numbers c.args.table.now.graph)
  here =
      let d = c.args.table.now in
      let t = c.loop-t.t in
      let exists : t < stations d.graph = omega (arith, c.stations-t-end.ensures.stations) in
      let long = c.dates.ensures.least.a_date_each t exists in
      let row = sum-row (date_in d.rows t) (jobs d.graph) (get_or d.rows t []) long (λ k below. sym (date-row d t k)) in
      c.row_total-total.ensures ∙ ap sum c.dates.ensures.dates ∙ row

  small : c.row_total-total.result ≤ 20_000 * 2 ^ 64
  small =
      let d = c.args.table.now in
      let t = c.loop-t.t in
      let table = c.dates.ensures.least in
      let dates = sum-row-small (date_in d.rows t) (jobs d.graph) LATEST_DATE (λ n. table.early t n) in
      let few = table.limits.few_jobs in
      omega (arith, here)

pub overflow_add-total : goal.overflow_add-total
overflow_add-total c =
    let few = c.stations-t-end.ensures.least.limits.few_stations in
    let so_far = c.loop-t.invariant.1 in
    omega (arith, few, c.stations-t-end.ensures.stations, small c)

pub loop-t-preserved : goal.loop-t-preserved
loop-t-preserved c =
    let of_station = λ (u : ℕ). sum_by (date_in c.args.table.now.rows u) (job_numbers c.args.table.now.graph) in
    let more = sum_by-range-more of_station c.loop-t.t in
    let so_far = c.loop-t.invariant in
    let now : c.loop-t.total + c.row_total-total.result ≡ sum_by of_station (range_with_len 0 (c.loop-t.t + 1)) = omega (arith, here c) in
    (now, omega (arith, small c))

pub returns : goal.returns
unfolding date_total
returns c =
    let d = c.args.table.now in
    let of_station = λ (u : ℕ). sum_by (date_in d.rows u) (job_numbers d.graph) in
    let all = c.loop-t.invariant.0 in
    let e : c.loop-t.t ≡ stations d.graph = omega (arith, c.stations-t-end.ensures.stations) in
    all ∙ ap (λ n. sum_by of_station (range_with_len 0 n)) e
