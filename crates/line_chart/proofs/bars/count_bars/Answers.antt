use Rattle.std.proofs.Common.{◌<◌, length, ap, ◌∙◌, arith}
use Rattle.std.specs.List.{flat_map}
use Rattle.std.proofs.lemmas.List.{take_all}
use Rattle.plant_model.specs.Graph.{graph}
use Rattle.event_graph.specs.Network.{jobs}
use Rattle.event_graph.specs.Table.{date_in}
use Rattle.line_chart.specs.Machines.{IsMachineOf}
use Rattle.line_chart.specs.Bars.{machine_bars, bars}
use Rattle.line_chart.proofs.LaneFacts.{few_machines}
use Rattle.line_chart.proofs.ChartLines.{count-read, all-read, few_machine_bars}
use Rattle.line_chart.proofs.bars.count_bars.Goals as goal

pub count_bars_of-count-requires-clause-machine : goal.count_bars_of-count-requires-clause-machine
count_bars_of-count-requires-clause-machine c =
    let is = c.graph-graph.ensures.graph ∙ c.requires.of_plant.live_graph in
    let below : c.loop-number.number < length c.args.run.now.machines.items = omega (arith, c.args.run.now.machines.ok.0) in
    rw is (all-read (IsMachineOf (graph c.args.run.now.plant)) c.args.run.now.machines.items c.loop-number.number c.index-machine.result.now c.requires.each below c.index-machine.ensures)

pub overflow_add-count : goal.overflow_add-count
overflow_add-count c =
    let many = ap jobs c.graph-graph.ensures.graph in
    let own = few_machine_bars c.graph-graph.result.now (date_in c.args.run.now.table.rows) c.args.run.now.window c.index-machine.result.now in
    omega (arith, c.loop-number.invariant.1, c.args.run.now.machines.ok.0, ap length c.requires.machines, few_machines c.args.run.now.plant c.requires.of_plant.sound, c.count_bars_of-count.ensures, own, many, c.graph-graph.ensures.ranked.limits.few_jobs)

pub loop-number-preserved : goal.loop-number-preserved
loop-number-preserved c =
    let p = c.args.run.now.plant in
    let x = date_in c.args.run.now.table.rows in
    let w = c.args.run.now.window in
    let is = c.graph-graph.ensures.graph ∙ c.requires.of_plant.live_graph in
    let below : c.loop-number.number < length c.args.run.now.machines.items = omega (arith, c.args.run.now.machines.ok.0) in
    let many = ap jobs c.graph-graph.ensures.graph in
    let own = few_machine_bars c.graph-graph.result.now x w c.index-machine.result.now in
    let here = c.count_bars_of-count.ensures ∙ ap (λ h. length (machine_bars h x w c.index-machine.result.now)) is in (
      omega (arith, c.loop-number.invariant.0, here, count-read (machine_bars (graph p) x w) c.args.run.now.machines.items c.loop-number.number c.index-machine.result.now below c.index-machine.ensures),
      omega (arith, c.loop-number.invariant.1, c.count_bars_of-count.ensures, own, many, c.graph-graph.ensures.ranked.limits.few_jobs),
    )

pub returns-clause-count : goal.returns-clause-count
unfolding bars
returns-clause-count c =
    let all = take_all c.loop-number.number c.args.run.now.machines.items (omega (arith, c.args.run.now.machines.ok.0)) ∙ c.requires.machines in
    c.loop-number.invariant.0 ∙ ap (λ ms. length (flat_map (machine_bars (graph c.args.run.now.plant) (date_in c.args.run.now.table.rows) c.args.run.now.window) ms)) all

pub returns-clause-few : goal.returns-clause-few
returns-clause-few c =
    omega (arith, c.loop-number.invariant.1, c.args.run.now.machines.ok.0, ap length c.requires.machines, few_machines c.args.run.now.plant c.requires.of_plant.sound)
