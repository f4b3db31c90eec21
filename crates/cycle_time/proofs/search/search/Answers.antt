use Rattle.std.proofs.Common.{◌*◌, ◌≤◌, arith}
use Rattle.std.proofs.lemmas.List.Elements.{All-weaker}
use Rattle.cycle_time.specs.Search.{most_before_pass, most_gain, IsGrown}
use Rattle.cycle_time.proofs.Rounds.{after_none, after_more, final}
use Rattle.cycle_time.proofs.search.search.Goals as goal

pub loop-turn-init : goal.loop-turn-init
loop-turn-init c =
    let ranked = c.graph-graph.ensures.ranked in
    let g = c.args.live.now.graph in
    after_none g c.args.weighing c.in_ok-tree.tree ranked.limits.some_station (rw c.graph-graph.ensures.graph at (c.in_ok-tree.ensures.grown c.args.weighing)) c.in_ok-tree.ensures.zero

pub returns-in_default : goal.returns-in_default
returns-in_default c =
    let ranked = c.graph-graph.ensures.ranked in
    let g = c.args.live.now.graph in
    let is = c.in_ok-weights.ensures.weighing in
    let grown = rw (c.graph-graph.ensures.graph, is) at c.in_default.ensures.grown in
    let covers = rw (c.graph-graph.ensures.graph, is) at c.in_default.ensures.covers in
    let ends = final g c.args.weighing c.loop-turn.tree c.pass.new.self c.loop-turn.turn ranked.sound ranked.limits.few_stations c.loop-turn.invariant grown covers c.in_default.ensures.rests in
    rw c.into_potentials.ensures ends

pub returns-in-Some-2 : goal.returns-in-Some-2
returns-in-Some-2 c =
    let w = c.args.weighing in
    let g = c.args.live.now.graph in
    let p = c.pass.new.self in
    let grown : IsGrown g w p = rw (c.graph-graph.ensures.graph, c.in_ok-weights.ensures.weighing) at c.in-Some.ensures.grown in
    let found = rw (c.graph-graph.ensures.graph, c.in-Some-2.is) at (c.in_ok-circuit.ensures w) in
    found grown

pub loop-turn-preserved : goal.loop-turn-preserved
loop-turn-preserved c =
    let ranked = c.graph-graph.ensures.ranked in
    let w = c.args.weighing in
    let g = c.args.live.now.graph in
    let p = c.pass.new.self in
    let is = c.in_ok-weights.ensures.weighing in
    let grown : IsGrown g w p = rw (c.graph-graph.ensures.graph, is) at c.in-Some.ensures.grown in
    let soon = rw (c.graph-graph.ensures.graph, c.in_default-2.is) at (c.in_ok-circuit.ensures w) in
    let raised = rw c.graph-graph.ensures.graph at c.in-Some.ensures.raised in
    let risen = rw c.graph-graph.ensures.graph at c.in-Some.ensures.risen in
    after_more g w c.loop-turn.tree p c.loop-turn.turn c.in-Some.raised ranked.sound c.loop-turn.invariant grown raised (rw (c.graph-graph.ensures.graph, is) at c.in-Some.ensures.covers) c.in-Some.ensures.within risen (soon grown)

pub pass-requires-clause-weights : goal.pass-requires-clause-weights
pass-requires-clause-weights c = c.in_ok-weights.ensures.weights

pub pass-requires-clause-grown : goal.pass-requires-clause-grown
pass-requires-clause-grown c = rw (c.graph-graph.ensures.graph, c.in_ok-weights.ensures.weighing) c.loop-turn.invariant.grown

-- a potential grows by 512 times the most gain in a pass, and there are at most 512 passes
pub pass-requires-clause-small : goal.pass-requires-clause-small
pass-requires-clause-small c =
    let h = c.loop-turn.invariant in
    let few = c.graph-graph.ensures.ranked.limits.few_stations in
    All-weaker (λ v. v ≤ c.loop-turn.turn * (512 * most_gain)) (λ v. v ≤ most_before_pass) (λ v fits. omega (arith, fits, few, h.early)) c.loop-turn.tree.potentials h.within

pub circuit_behind-requires-clause-station : goal.circuit_behind-requires-clause-station
circuit_behind-requires-clause-station c = c.in-Some.ensures.risen.exists

pub circuit_behind-requires-clause-entry_for_each : goal.circuit_behind-requires-clause-entry_for_each
circuit_behind-requires-clause-entry_for_each c = c.in-Some.ensures.grown.entry_for_each

pub circuit_behind-requires-clause-enter : goal.circuit_behind-requires-clause-enter
circuit_behind-requires-clause-enter c = c.in-Some.ensures.grown.enters
