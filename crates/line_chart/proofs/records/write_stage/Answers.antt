use Rattle.std.proofs.Common.{◌≡◌, ◌-◌, length, ap, ◌∙◌, arith}
use Rattle.plant_model.specs.Line.{stage_at, release, last_machine}
use Rattle.plant_model.proofs.LayoutFacts.{small_last_machine}
use Rattle.plant_model.proofs.LayoutPaths.{path_stock-small}
use Rattle.plant_model.proofs.LayoutStations.{last_machine-below}
use Rattle.event_graph.specs.Network.{stations}
use Rattle.line_graph.proofs.Sizes.{stations-graph}
use Rattle.outside_io.proofs.OutgoingLemmas.{◌⨟◌}
use Rattle.line_chart.specs.TableText.{stage_records}
use Rattle.line_chart.proofs.StageRuns.{stocks-inside, stock-read}
use Rattle.line_chart.proofs.records.write_stage.Goals as goal

pub index-ahead-requires : goal.index-ahead-requires
index-ahead-requires g c = stocks-inside c.args.run.now.plant c.args.run.now.stocks c.args.stage c.requires.run.stocks c.requires.exists

pub overflow_sub-count : goal.overflow_sub-count
overflow_sub-count g c =
    let first = c.release-release.ensures.station ∙ ap (λ p. release p c.args.stage) c.requires.run.numbers in
    let last = c.last_machine.ensures.station ∙ ap (λ p. last_machine p c.args.stage) c.requires.run.numbers in
    omega (arith, first, last)

pub write_station-requires-clause-station : goal.write_station-requires-clause-station
write_station-requires-clause-station g c =
    let p = c.args.run.now.plant in
    let first = c.release-release.ensures.station ∙ ap (λ p. release p c.args.stage) c.requires.run.numbers in
    let many = ap stations (c.graph-graph.ensures.graph ∙ c.requires.run.of_plant.live_graph) in
    omega (arith, first, many, stations-graph p, last_machine-below p c.args.stage c.requires.exists)

pub write_station-requires-clause-few : goal.write_station-requires-clause-few
write_station-requires-clause-few g c =
    let p = c.args.run.now.plant in
    let ahead = stock-read p _ c.args.stage _ c.requires.run.stocks c.requires.exists c.index-ahead.ensures in
    omega (arith, ahead, path_stock-small p c.args.stage c.requires.run.of_plant.sound c.requires.exists)

pub write_machines-requires-clause-stations : goal.write_machines-requires-clause-stations
write_machines-requires-clause-stations g c =
    let p = c.args.run.now.plant in
    let first = c.release-release.ensures.station ∙ ap (λ p. release p c.args.stage) c.requires.run.numbers in
    let last = c.last_machine.ensures.station ∙ ap (λ p. last_machine p c.args.stage) c.requires.run.numbers in
    let many = ap stations (c.graph-graph.ensures.graph ∙ c.requires.run.of_plant.live_graph) in
    omega (arith, first, last, many, stations-graph p, last_machine-below p c.args.stage c.requires.exists)

pub write_machines-requires-clause-small : goal.write_machines-requires-clause-small
write_machines-requires-clause-small g c =
    let p = c.args.run.now.plant in
    let first = c.release-release.ensures.station ∙ ap (λ p. release p c.args.stage) c.requires.run.numbers in
    let last = c.last_machine.ensures.station ∙ ap (λ p. last_machine p c.args.stage) c.requires.run.numbers in
    omega (arith, first, last, small_last_machine p c.args.stage c.requires.run.of_plant.sound c.requires.exists)

pub write_machines-requires-clause-few : goal.write_machines-requires-clause-few
write_machines-requires-clause-few g c =
    let p = c.args.run.now.plant in
    let ahead = stock-read p _ c.args.stage _ c.requires.run.stocks c.requires.exists c.index-ahead.ensures in
    omega (arith, ahead, path_stock-small p c.args.stage c.requires.run.of_plant.sound c.requires.exists)

pub returns : goal.returns
unfolding stage_records
returns g c =
    let p = c.args.run.now.plant in
    let is = c.graph-graph.ensures.graph ∙ c.requires.run.of_plant.live_graph in
    let at = c.release-release.ensures.station ∙ ap (λ q. release q c.args.stage) c.requires.run.numbers in
    let last = c.last_machine.ensures.station ∙ ap (λ q. last_machine q c.args.stage) c.requires.run.numbers in
    let ahead = stock-read p _ c.args.stage _ c.requires.run.stocks c.requires.exists c.index-ahead.ensures in
    let count : c.last_machine.result - c.release-release.result ≡ length (stage_at p c.args.stage).machines = omega (arith, last, at) in
    let first = rw (is, ahead, at) at c.write_station.ensures in
    let rest = rw (count, is, ahead, at) at c.write_machines.ensures in
    first ⨟ rest
