use Rattle.std.proofs.Common.{◌≡◌, ◌∙◌, ◌-◌, ◌++◌, length, ap, arith}
use Rattle.plant_model.specs.ArcNumbers.{first_loop_arc}
use Rattle.circuit_sums.specs.Circuits.{policy_circuits, loop_circuits, circuits}
use Rattle.circuit_sums.proofs.Listings.{length-arcs}
use Rattle.circuit_sums.proofs.CardArcs.{all-closed}
use Rattle.circuit_sums.proofs.listing.card_circuits.Goals.{After-from_vec}
use Rattle.circuit_sums.proofs.listing.card_circuits.Goals as goal

pub list_circuits-requires-clause-loops : goal.list_circuits-requires-clause-loops
list_circuits-requires-clause-loops c =
    omega (arith, length-arcs c.args.plant.now c.args.graph.now c.arcs.result.now c.arcs.ensures.arcs c.requires.graph)

pub list_circuits-requires-clause-few : goal.list_circuits-requires-clause-few
list_circuits-requires-clause-few c = omega (arith, c.arcs.ensures.limits.few_arcs, ap length c.arcs.ensures.arcs)

listed : (c : After-from_vec) → c.from_vec.result ≡ circuits c.args.plant.now
unfolding circuits
listed c =
    let p = c.args.plant.now in
    let count = length-arcs p c.args.graph.now c.arcs.result.now c.arcs.ensures.arcs c.requires.graph in
    let first : length c.arcs.result.now - length p.loops ≡ first_loop_arc p = omega arith in
    c.from_vec.ensures ∙ c.in_ok-list.ensures ∙ ap (λ arc. policy_circuits p ++ loop_circuits p arc) first

pub returns-clause-circuits : goal.returns-clause-circuits
returns-clause-circuits c = listed (goal.at.returns-clause-circuits c).After-from_vec

pub returns-clause-closed : goal.returns-clause-closed
returns-clause-closed c =
    all-closed c.args.plant.now c.args.graph.now c.from_vec.result c.requires.sound c.requires.graph (listed (goal.at.returns-clause-closed c).After-from_vec)
