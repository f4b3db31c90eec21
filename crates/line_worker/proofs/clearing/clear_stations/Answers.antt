use Rattle.std.proofs.Common.{set, sym, ap, ◌∙◌}
use Rattle.std.proofs.lemmas.List.Edits.{map_over_more}
use Rattle.line_worker.specs.Cleared.{cleared_station}
use Rattle.line_worker.proofs.clearing.clear_stations.Goals as goal

pub loop-station-preserved : goal.loop-station-preserved
loop-station-preserved c =
    let old = c.deref_mut-station-items.result.now in
    let now = c.loop-station.station-items in
    let i = c.loop-station.station-index in
    let station = c.station-item.result in
    ap (set now i) (c.clear_turns.ensures.turns ∙ ap cleared_station (sym c.station-item.is))
    ∙ map_over_more cleared_station old now i station c.loop-station-test.true c.loop-station.invariant c.station-item.is
