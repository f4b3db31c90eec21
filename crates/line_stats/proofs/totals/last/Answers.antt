use Rattle.std.proofs.Common.{◌≡◌, ℕ, ◌+◌, ◌<◌, [], get_or, refl, sym, ◌∙◌, ap, arith}
use Rattle.std.specs.List.{range_with_len}
use Rattle.event_graph.specs.Network.{jobs, stations}
use Rattle.event_graph.specs.Table.{date_in}
use Rattle.event_graph.specs.GreatestValue.{greatest}
use Rattle.line_stats.specs.Counts.{job_numbers, last_date}
use Rattle.line_stats.proofs.RisingDates.{date-row}
use Rattle.event_graph.proofs.Greatest.{greatest-range}
use Rattle.line_stats.proofs.Greatest.{greatest-row}
use Rattle.line_stats.proofs.totals.last.Goals as goal

pub loop-t-init : goal.loop-t-init
unfolding greatest
loop-t-init c = refl

pub loop-t-preserved : goal.loop-t-preserved
loop-t-preserved c =
    let d = c.args.table.now in
    let g = d.graph in
    let x = date_in d.rows in
    let t = c.loop-t.t in
    let of_station = λ (u : ℕ). greatest (x u) (job_numbers g) in
    let more = greatest-range of_station t in
    let so_far : c.loop-t.last ≡ greatest of_station (range_with_len 0 t) = c.loop-t.invariant in
    let exists : t < stations g = omega (arith, c.stations-t-end.ensures.stations) in
    let long = c.dates.ensures.least.a_date_each t exists in
    let row = greatest-row (x t) (jobs g) (get_or d.rows t []) long (λ k below. sym (date-row d t k)) in
    let here = c.latest.ensures ∙ ap (greatest (λ date. date)) c.dates.ensures.dates ∙ row in
    let now : c.max-last.result ≡ greatest of_station (range_with_len 0 (t + 1)) = omega arith in
    now

pub returns : goal.returns
unfolding last_date
returns c =
    let d = c.args.table.now in
    let of_station = λ (u : ℕ). greatest (date_in d.rows u) (job_numbers d.graph) in
    let all : c.loop-t.last ≡ greatest of_station (range_with_len 0 c.loop-t.t) = c.loop-t.invariant in
    let e : c.loop-t.t ≡ stations d.graph = omega (arith, c.stations-t-end.ensures.stations) in
    all ∙ ap (λ n. greatest of_station (range_with_len 0 n)) e
