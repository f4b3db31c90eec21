use Rattle.std.proofs.Common.{refl, sym, subst}
use Rattle.std.specs.List.{All}
use Rattle.plant_model.specs.Graph.{graph}
use Rattle.event_graph.specs.Live.{IsLive}
use Rattle.line_chart.specs.Machines.{IsMachineOf}
use Rattle.line_chart.proofs.LaneFacts.{are_machines}
use Rattle.line_chart.proofs.making.run_of.Goals as goal

pub returns-in-Ok : goal.returns-in-Ok
returns-in-Ok c =
    let p = c.args.plant in
    let live = subst IsLive c.requires.of_plant.live_graph c.graph-graph.ensures.ranked.live in
    let lanes = c.in-Ok.ensures in
    record {
      of_run = record {
        of_plant = c.requires.of_plant;
        numbers = lanes.numbers;
        machines = lanes.machines;
        each = subst (All (IsMachineOf (graph p))) (sym lanes.machines) (are_machines p c.requires.of_plant.sound live);
        window = c.requires.window;
        lanes = lanes.lanes;
        small = lanes.small;
      };
      plant = refl;
      table = refl;
      window = refl;
    }
