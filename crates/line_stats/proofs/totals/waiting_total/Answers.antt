use Rattle.std.proofs.Common.{◌≡◌, ℕ, ◌-◌, [], get_or, length, sym, ◌∙◌, ap, arith}
use Rattle.std.specs.List.{sum_by, range_with_len}
use Rattle.event_graph.specs.Network.{stations, jobs}
use Rattle.event_graph.specs.Table.{date_in}
use Rattle.line_stats.specs.Counts.{waiting}
use Rattle.line_stats.proofs.RisingDates.{date-row}
use Rattle.line_stats.proofs.Waits.{sum-more}
use Rattle.line_stats.proofs.totals.waiting_total.Goals as goal

pub loop-job-preserved : goal.loop-job-preserved
loop-job-preserved c =
    let d = c.args.table.now in
    let x = date_in d.rows in
    let k = c.loop-job.job in
    let v = stations d.graph - 1 in
    let wait = λ (n : ℕ). x v n - x 0 n in
    let more = sum-more wait k in
    let so_far = c.loop-job.invariant in
    let last = ap (λ n. get_or (get_or d.rows (n - 1) []) k 0) c.stations.ensures.stations in
    let delivered = ap (λ row. get_or row k 0) c.dates-delivered.ensures.dates ∙ last ∙ sym (date-row d v k) in
    let demanded = ap (λ row. get_or row k 0) c.dates-demanded.ensures.dates ∙ sym (date-row d 0 k) in
    (omega arith, omega arith)

pub returns : goal.returns
unfolding waiting
returns c =
    let d = c.args.table.now in
    let x = date_in d.rows in
    let table = c.stations.ensures.least in
    let wait = λ (n : ℕ). x (stations d.graph - 1) n - x 0 n in
    let so_far = c.loop-job.invariant in
    let some = table.limits.some_station in
    let long = ap length c.dates-delivered.ensures.dates ∙ table.a_date_each (c.stations.result - 1) (omega (arith, c.stations.ensures.stations)) in
    let e : c.loop-job.job ≡ jobs d.graph = omega arith in
    so_far.0 ∙ ap (λ n. sum_by wait (range_with_len 1 n)) e
