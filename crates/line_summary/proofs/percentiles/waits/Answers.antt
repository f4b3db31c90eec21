use Rattle.std.proofs.Common.{◌≡◌, ◌+◌, ◌-◌, [], ◌∷◌, ◌++◌, map, length, ap, ◌∙◌, sym, arith}
use Rattle.std.specs.List.{range_with_len}
use Rattle.std.proofs.lemmas.List.FromFn.{map-range_with_len_more}
use Rattle.event_graph.specs.Network.{jobs}
use Rattle.event_graph.specs.Table.{date_in}
use Rattle.line_summary.specs.Waits.{wait}
use Rattle.line_summary.proofs.WaitLists.{wait-read}
use Rattle.line_summary.proofs.percentiles.waits.Goals as goal

pub loop-before-preserved : goal.loop-before-preserved
loop-before-preserved c =
    let d = c.args.table.now in
    let k = c.loop-before.before in
    let here = wait-read d k c.stations.result c.saturating_sub.result c.dates-delivered.result.now c.dates-demanded.result.now c.stations.ensures.stations c.dates-delivered.ensures.dates c.dates-demanded.ensures.dates (omega (arith, c.saturating_sub.ensures)) in
    let more = map-range_with_len_more (wait d.graph (date_in d.rows)) 1 k (k + 1) (omega arith) in
    let before = c.loop-before.invariant in
    c.in_ok-push.ensures.items ∙ ap (λ l. l ++ c.saturating_sub.result ∷ []) before ∙ ap (λ n. map (wait d.graph (date_in d.rows)) (range_with_len 1 k) ++ n ∷ []) here ∙ sym more

pub returns : goal.returns
returns c =
    let d = c.args.table.now in
    let table = c.stations.ensures.least in
    let some_station = table.limits.some_station in
    let long = ap length c.dates-delivered.ensures.dates ∙ table.a_date_each (c.stations.result - 1) (omega (arith, c.stations.ensures.stations)) in
    let e : c.loop-before.before ≡ jobs d.graph = omega (arith, long) in
    c.loop-before.invariant ∙ ap (λ n. map (wait d.graph (date_in d.rows)) (range_with_len 1 n)) e
