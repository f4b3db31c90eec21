use Rattle.std.proofs.Common.{◌<◌, length, ◌∙◌, arith}
use Rattle.std.proofs.lemmas.List.{take_all}
use Rattle.plant_model.specs.Graph.{graph}
use Rattle.event_graph.specs.Table.{date_in}
use Rattle.outside_io.proofs.OutgoingLemmas.{pushed_none}
use Rattle.line_chart.specs.Bars.{machine_bars, bars}
use Rattle.line_chart.specs.ChartText.{bar_line}
use Rattle.line_chart.proofs.ChartLines.{pushed_bars_read, machine_read}
use Rattle.line_chart.proofs.bars.write_all_bars.Goals as goal

pub loop-number-init : goal.loop-number-init
loop-number-init g c = pushed_none _

pub write_bars_of-requires-clause-machine : goal.write_bars_of-requires-clause-machine
write_bars_of-requires-clause-machine g c =
    machine_read c.args.run.now _ c.loop-number.number c.index-machine.result.now c.requires c.graph-graph.ensures.graph (omega (arith, c.args.run.now.machines.ok.0)) c.index-machine.ensures

pub loop-number-preserved : goal.loop-number-preserved
loop-number-preserved g c =
    let is = c.graph-graph.ensures.graph ∙ c.requires.of_plant.live_graph in
    let below : c.loop-number.number < length c.args.run.now.machines.items = omega (arith, c.args.run.now.machines.ok.0) in
    pushed_bars_read bar_line (machine_bars (graph c.args.run.now.plant) (date_in c.args.run.now.table.rows) c.args.run.now.window) c.args.run.now.machines.items c.loop-number.number c.index-machine.result.now below c.index-machine.ensures c.loop-number.invariant (rw is at c.write_bars_of.ensures)

pub returns : goal.returns
unfolding bars
returns g c =
    let all = take_all c.loop-number.number c.args.run.now.machines.items (omega (arith, c.args.run.now.machines.ok.0)) ∙ c.requires.machines in
    rw all at c.loop-number.invariant
