use Rattle.std.proofs.Common.{ap, ◌∙◌, arith}
use Rattle.plant_model.specs.Line.{deliver}
use Rattle.outside_io.proofs.OutgoingLemmas.{◌⨟◌}
use Rattle.line_stats.proofs.PlantTables.{exists_in}
use Rattle.line_chart.specs.TableText.{table_text}
use Rattle.line_chart.proofs.records.write_table.Goals as goal

pub returns : goal.returns
unfolding table_text
returns g c =
    let is = c.graph-graph.ensures.graph ∙ c.requires.of_plant.live_graph in
    let at = c.deliver.ensures.station ∙ ap deliver c.requires.numbers in
    let feed = rw is at c.write_station.ensures in
    let delivery = rw (is, at) at c.write_station-2.ensures in
    c.push.ensures ⨟ feed ⨟ c.write_stages.ensures ⨟ delivery

pub write_station-requires-2-clause-station : goal.write_station-requires-2-clause-station
write_station-requires-2-clause-station g c =
    let is = c.graph-graph.ensures.graph ∙ c.requires.of_plant.live_graph in
    let at = c.deliver.ensures.station ∙ ap deliver c.requires.numbers in
    exists_in c.args.run.now.plant c.graph-graph.result.now c.deliver.result is (omega (arith, at))
