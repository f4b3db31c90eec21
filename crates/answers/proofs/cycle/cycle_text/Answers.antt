use Rattle.answers.proofs.CycleTexts.{circuit_added, cycle_added}
use Rattle.answers.proofs.cycle.cycle_text.Goals as goal

pub returns : goal.returns
returns c =
    let line =
    circuit_added c.args.graph.now c.as_slice-circuit.result.now _
    c.extend_from_slice.new.self.items c.add_circuit_stations.new.text.items c.add_sums.new.text.items c.time_of.result c.tokens_of.result
    c.in_ok-extend_from_slice.ensures.items c.in_ok-add_circuit_stations.ensures c.in_ok-add_sums.ensures c.time_of.ensures.time c.tokens_of.ensures.tokens
    in
    let circuit = rw c.as_slice-circuit.ensures at line in
    let potentials = rw c.as_slice.ensures at c.in_ok-add_potentials.ensures in
    rw c.from_vec.ensures
    (cycle_added c.args.graph.now c.args.certificate.now _ c.add_sums.new.text.items c.add_potentials.new.text.items
    (rw c.new-text.ensures.items at c.in_ok-add_ratio.ensures) circuit potentials)
