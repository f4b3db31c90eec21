use Rattle.answers.specs.CheckText.{circuit_line}
use Rattle.answers.proofs.SinkLines.{item_more}
use Rattle.answers.proofs.check.add_circuits.Goals as goal

pub loop-circuit-preserved : goal.loop-circuit-preserved
loop-circuit-preserved c =
    item_more (circuit_line c.args.plant.now) c.args.circuits.now c.loop-circuit.circuit-index _ c.circuit-item.result
    c.args.text.now.items c.loop-circuit.text.items c.add_circuit.new.text.items
    c.loop-circuit-test.true c.circuit-item.is c.loop-circuit.invariant c.in_ok-add_circuit.ensures
