use Rattle.std.proofs.Common.{◌≡◌, ℕ, ap, ◌∙◌, sym, arith}
use Rattle.line_base.specs.declared.event.Arc.{Arc}
use Rattle.line_base.specs.declared.event.Parts.{Parts}
use Rattle.event_graph.specs.Network.{stations, arc}
use Rattle.line_worker.specs.Share.{worker_of}
use Rattle.line_worker.proofs.Share.{worker_number-below}
use Rattle.line_setup.specs.Making.{putter, taker}
use Rattle.line_setup.proofs.laying.Ends.join.Goals as goal
use Rattle.line_setup.proofs.laying.Ends.join.Goals.{After-worker_of-taker}

-- the worker of the station at one end of the arc
worker_at : (c : After-worker_of-taker) (end : Arc → ℕ) → worker_of c.args.start.now.worker_count c.stations-stations.result (end c.arc-arc.result) ≡ worker_of c.args.start.now.worker_count (stations c.args.start.now.live.now.graph) (end (arc c.args.start.now.live.now.graph c.args.a))
worker_at c end =
    let worker_count = c.args.start.now.worker_count in
    let many = c.stations-stations.ensures.count ∙ ap stations c.graph-graph.ensures.graph in
    ap (λ n. worker_of worker_count n (end c.arc-arc.result)) many
    ∙ ap (λ (a : Arc). worker_of worker_count (stations c.args.start.now.live.now.graph) (end a)) (c.arc-arc.ensures.arc ∙ ap (λ (p : Parts). arc p c.args.a) c.graph-graph.ensures.graph)

putter_is : (c : After-worker_of-taker) → c.worker_of-putter.result ≡ putter c.args.start.now.live.now.graph c.args.start.now.worker_count c.args.a
putter_is c = c.worker_of-putter.ensures ∙ worker_at c (λ (a : Arc). a.from)

taker_is : (c : After-worker_of-taker) → c.worker_of-taker.result ≡ taker c.args.start.now.live.now.graph c.args.start.now.worker_count c.args.a
taker_is c = c.worker_of-taker.ensures ∙ worker_at c (λ (a : Arc). a.to)

pub join_within-requires-clause-puts : goal.join_within-requires-clause-puts
join_within-requires-clause-puts c = sym (putter_is (goal.at.join_within-requires-clause-puts c).After-worker_of-taker)

pub join_within-requires-clause-takes : goal.join_within-requires-clause-takes
join_within-requires-clause-takes c =
    sym (taker_is (goal.at.join_within-requires-clause-takes c).After-worker_of-taker) ∙ sym c.if-putter-taker.true

pub join_between-requires-clause-two : goal.join_between-requires-clause-two
join_between-requires-clause-two c same =
    let from = (goal.at.join_between-requires-clause-two c).After-worker_of-taker in
    c.if-putter-taker.false (putter_is from ∙ same ∙ sym (taker_is from))

pub join_within-requires-clause-worker_number : goal.join_within-requires-clause-worker_number
join_within-requires-clause-worker_number c =
    let below = worker_number-below c.args.start.now.worker_count c.stations-stations.result c.requires.may_begin.some (omega (arith, c.stations-stations.ensures.limits.some_station, c.stations-stations.ensures.count)) c.arc-arc.result.from (omega (arith, c.arc-arc.ensures.starts, c.stations-stations.ensures.count, ap stations c.graph-graph.ensures.graph)) in
    omega (arith, c.worker_of-putter.ensures, below)
