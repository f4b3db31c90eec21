use Rattle.std.proofs.Common.{◌≡◌}
use Rattle.std.specs.List.{flat_map, range_with_len}
use Rattle.plant_model.specs.Graph.{arcs_of, delays_of, stage_rows}
use Rattle.line_graph.proofs.rows.rows_of_stages.Given as goal

abbrev pub invariant-loop-number : goal.invariant-loop-number
invariant-loop-number l =
    let of_stages = flat_map (stage_rows l.layout) (range_with_len 0 l.number) in
    record { arcs : l.all.arcs.items ≡ arcs_of of_stages; delays : l.all.delays.items ≡ delays_of of_stages }
