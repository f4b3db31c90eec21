use Rattle.std.proofs.Common.{◌∙◌, ◌-◌, ◌++◌, List, length, ap, arith}
use Rattle.plant_model.specs.declared.plant.Plant.{Plant}
use Rattle.circuit_sums.specs.declared.circuit.CardCircuit.{CardCircuit}
use Rattle.circuit_sums.specs.Circuits.{policy_circuits, loop_circuits}
use Rattle.circuit_sums.proofs.listing.list_circuits.Goals as goal

pub add_loop_circuits-requires-clause-few : goal.add_loop_circuits-requires-clause-few
add_loop_circuits-requires-clause-few c =
    let loops = ap (λ (p : Plant). length p.loops) c.in_ok-layout.ensures in
    omega arith

pub returns : goal.returns
returns c =
    let p = c.args.plant.now in
    let n = c.in_ok-layout.layout in
    let first = c.args.arcs - c.len.result in
    c.in_ok-add_loop_circuits.ensures
    ∙ ap (λ (xs : List CardCircuit). xs ++ loop_circuits n first) c.in_ok-list.ensures
    ∙ ap (λ q. policy_circuits q ++ loop_circuits q first) c.in_ok-layout.ensures
    ∙ ap (λ loops. policy_circuits p ++ loop_circuits p (c.args.arcs - loops)) c.len.ensures
