use Rattle.std.proofs.Common.{◌≡◌, ◌∷◌, ◌++◌}
use Rattle.std.specs.List.{flat_map, range_with_len}
use Rattle.plant_model.specs.Line.{release, machine_station}
use Rattle.plant_model.specs.Graph.{arcs_of, delays_of, worked_row, machine_rows}
use Rattle.line_graph.proofs.rows.add_stage_rows.Given as goal

abbrev pub invariant-loop-number : goal.invariant-loop-number
invariant-loop-number l =
    let of_machines = flat_map (machine_rows l.layout l.stage) (range_with_len 0 l.number) in
    record {
      arcs : l.all.arcs.items ≡ l.fn.all.arcs.items ++ ((worked_row (release l.layout l.stage) (machine_station l.layout l.stage 0) 0).arc ∷ arcs_of of_machines);
      delays : l.all.delays.items ≡ l.fn.all.delays.items ++ (0 ∷ delays_of of_machines);
    }
