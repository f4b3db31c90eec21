use Rattle.answers.proofs.CycleTexts.{stations_added}
use Rattle.answers.proofs.circuit.add_circuit_stations.Goals as goal

pub returns : goal.returns
returns c =
    let turned = rw (← c.as_slice.ensures.value) at c.in_ok-stations.ensures.turned in
    stations_added c.args.graph.now c.args.arcs.now c.as_slice.result.now _ _ _ turned c.add_stations.ensures
