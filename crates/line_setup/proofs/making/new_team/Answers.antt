use Rattle.std.proofs.Common.{◌≡◌, ℕ, ◌+◌, ◌<◌, ◌≤◌, List, [], Vec, Global, map, length, slice_index, set, sym, ap, ◌∙◌, subst, arith}
use Rattle.std.proofs.lemmas.List.{length-map, get_or-map}
use Rattle.event_graph.specs.Network.{stations, jobs, arc, arc_count}
use Rattle.station_step.specs.declared.source.Source.{Source}
use Rattle.station_step.specs.Shelf.{source_at, new_queue}
use Rattle.line_worker.proofs.Share.{first-le, next-above}
use Rattle.line_worker.specs.Team.{WorkTeam}
use Rattle.line_worker.specs.Share.{first_of}
use Rattle.line_setup.specs.Making.{QueueEnds, source_of, firsts_at, arcs_at, arc_in, MayShelve, AreNewStations, AreFitFrom, SameStationsFrom, IsNewTeam}
use Rattle.line_setup.proofs.MadeStations.{next-below, next-rises, new-stands, new_team-is, fit-unshelved, same-unshelved, shelves-without}
use Rattle.line_setup.proofs.making.new_team.Goals as goal
use Rattle.line_setup.proofs.making.new_team.Goals.{After-take_shelf-firsts}

pub new_shelf-requires-clause-shelf : goal.new_shelf-requires-clause-shelf
new_shelf-requires-clause-shelf c =
    subst (λ (l : List (List ℕ)). MayShelve c.args.live.now.graph l) (sym c.take_shelf-firsts.ensures.tokens) c.requires.shelf

pub new_stations-requires-clause-stations : goal.new_stations-requires-clause-stations
new_stations-requires-clause-stations c =
    let count = c.stations-stations.ensures.count in
    let same = ap stations c.graph.ensures.graph in
    let many = c.stations-stations.result in
    omega (arith, next-below c.args.worker_count many c.args.worker_number (omega (arith, count, c.stations-stations.ensures.limits.some_station)) c.requires.worker_number, c.first_of-next.ensures, count, same)

pub new_stations-requires-clause-fit : goal.new_stations-requires-clause-fit
new_stations-requires-clause-fit c =
    let g = c.args.live.now.graph in
    let begun = c.args.state.now.state in
    let old = c.args.ends.now in
    let many : c.stations-stations.result ≡ stations g = c.stations-stations.ensures.count ∙ ap stations c.graph.ensures.graph in
    let first : c.first_of-first.result ≡ first_of c.args.worker_count (stations g) c.args.worker_number =
    c.first_of-first.ensures ∙ ap (λ n. first_of c.args.worker_count n c.args.worker_number) many in
    subst (λ (t : ℕ). AreFitFrom g begun t c.take_shelf-firsts.new.self) (sym first) (
    fit-unshelved (first_of c.args.worker_count (stations g) c.args.worker_number) old c.take_shelf-firsts.new.self (set old.shelves c.args.worker_number []) (set old.arcs c.args.worker_number []) c.take_shelf-firsts.ensures.rest g begun c.requires.fit)

pub returns-clause-stations : goal.returns-clause-stations
returns-clause-stations c =
    let g = c.args.live.now.graph in
    let old = c.args.ends.now in
    let many : c.stations-stations.result ≡ stations g = c.stations-stations.ensures.count ∙ ap stations c.graph.ensures.graph in
    let next : c.first_of-next.result ≡ first_of c.args.worker_count (stations g) (c.args.worker_number + 1) =
    c.first_of-next.ensures ∙ ap (λ n. first_of c.args.worker_count n (c.args.worker_number + 1)) many in
    subst (λ (t : ℕ). SameStationsFrom t old c.new_stations.new.ends) next (
    same-unshelved c.first_of-next.result old c.take_shelf-firsts.new.self (set old.shelves c.args.worker_number []) (set old.arcs c.args.worker_number []) c.take_shelf-firsts.ensures.rest c.new_stations.new.ends c.in_ok-stations.ensures.rest)

pub returns-clause-shelves : goal.returns-clause-shelves
returns-clause-shelves c =
    shelves-without c.args.worker_number c.args.ends.now c.new_stations.new.ends (c.in_ok-stations.ensures.shelves ∙ ap (λ (e : QueueEnds). e.shelves) c.take_shelf-firsts.ensures.rest) (c.in_ok-stations.ensures.arcs ∙ ap (λ (e : QueueEnds). e.arcs) c.take_shelf-firsts.ensures.rest)

pub returns-clause-team : goal.returns-clause-team
returns-clause-team c =
    let g = c.args.live.now.graph in
    let begun = c.args.state.now.state in
    subst (λ (team : WorkTeam). IsNewTeam g begun c.args.worker_count c.args.ends.now c.args.worker_number team) (sym c.new.ensures) (
    new_team-is
    g
    begun
    c.args.worker_count
    c.args.worker_number
    c.first_of-first.result
    c.first_of-next.result
    c.stations-stations.result
    c.args.ends.now
    c.take_shelf-firsts.new.self
    (set c.args.ends.now.shelves c.args.worker_number [])
    (set c.args.ends.now.arcs c.args.worker_number [])
    (map (λ (tokens : Vec ℕ Global). tokens.items) c.take_shelf-firsts.result.0.items)
    (record { stations = c.in_ok-stations.stations.items; shelf = c.in_ok-shelf.shelf.queues })
    (c.stations-stations.ensures.count ∙ ap stations c.graph.ensures.graph)
    c.first_of-first.ensures
    c.first_of-next.ensures
    c.take_shelf-firsts.ensures.rest
    c.take_shelf-firsts.ensures.tokens
    c.in_ok-stations.ensures.count
    c.in_ok-stations.ensures.made
    c.in_ok-shelf.ensures.queues)

-- how many stations there are, and where this worker's are
many_are : (c : After-take_shelf-firsts) → c.stations-stations.result ≡ stations c.args.live.now.graph
many_are c = c.stations-stations.ensures.count ∙ ap stations c.graph.ensures.graph

first_is : (c : After-take_shelf-firsts) → c.first_of-first.result ≡ first_of c.args.worker_count (stations c.args.live.now.graph) c.args.worker_number
first_is c = c.first_of-first.ensures ∙ ap (λ n. first_of c.args.worker_count n c.args.worker_number) (many_are c)

next_is : (c : After-take_shelf-firsts) → c.first_of-next.result ≡ first_of c.args.worker_count (stations c.args.live.now.graph) (c.args.worker_number + 1)
next_is c = c.first_of-next.ensures ∙ ap (λ n. first_of c.args.worker_count n (c.args.worker_number + 1)) (many_are c)

any_station : (c : After-take_shelf-firsts) → 1 ≤ stations c.args.live.now.graph
any_station c = omega (arith, many_are c, c.stations-stations.ensures.limits.some_station, c.stations-stations.ensures.count)

next_below : (c : After-take_shelf-firsts) → c.first_of-next.result ≤ stations c.args.live.now.graph
next_below c =
    omega (arith, next_is c, next-below c.args.worker_count (stations c.args.live.now.graph) c.args.worker_number (any_station c) c.requires.worker_number)

pub new_logs-requires-clause-stations : goal.new_logs-requires-clause-stations
new_logs-requires-clause-stations c = next_below (goal.at.new_logs-requires-clause-stations c).After-take_shelf-firsts

pub new_logs-requires-clause-in_order : goal.new_logs-requires-clause-in_order
new_logs-requires-clause-in_order c =
    let from = (goal.at.new_logs-requires-clause-in_order c).After-take_shelf-firsts in
    omega (arith, first_is from, next_is from, next-rises c.args.worker_count (stations c.args.live.now.graph) c.args.worker_number (any_station from) c.requires.worker_number)

-- each arc starts at one of this worker's stations
own_from : (c : After-take_shelf-firsts) (arcs : List ℕ) → arcs ≡ arcs_at c.args.ends.now c.args.worker_number → (q : ℕ) → q < length arcs → (c.first_of-first.result ≤ (arc c.args.live.now.graph (slice_index arcs q)).from) × ((arc c.args.live.now.graph (slice_index arcs q)).from < c.first_of-next.result)
own_from c arcs are q low =
    let g = c.args.live.now.graph in
    let W = c.args.worker_count in
    let there : q < length (arcs_at c.args.ends.now c.args.worker_number) = omega (arith, low, ap length are) in
    let a = arc_in c.args.ends.now c.args.worker_number q in
    let same : slice_index arcs q ≡ a = ap (λ (l : List ℕ). slice_index l q) are in
    let from = (arc g a).from in
    let owned = c.requires.sources.own q there in
    let some : 1 ≤ W = omega (arith, c.requires.worker_number) in
    let any = any_station c in
    let above : first_of W (stations g) c.args.worker_number ≤ from =
    omega (arith, first-le W (stations g) some any from, ap (first_of W (stations g)) owned) in
    let below : from < first_of W (stations g) (c.args.worker_number + 1) =
    omega (arith, next-above W (stations g) some any from, ap (λ w. first_of W (stations g) (w + 1)) owned) in
    let start = ap (λ (b : ℕ). (arc g b).from) same in (
      omega (arith, above, start, first_is c),
      omega (arith, below, start, next_is c),
    )

pub new_sources-requires-clause-own : goal.new_sources-requires-clause-own
new_sources-requires-clause-own c q low =
    (own_from (goal.at.new_sources-requires-clause-own c).After-take_shelf-firsts c.take_shelf-firsts.result.1.items c.take_shelf-firsts.ensures.arcs q low).0

pub new_sources-requires-clause-exist : goal.new_sources-requires-clause-exist
new_sources-requires-clause-exist c q low =
    let arcs = c.take_shelf-firsts.ensures.arcs in
    subst (λ (l : List ℕ). slice_index l q < arc_count c.args.live.now.graph) (sym arcs) (c.requires.sources.exist q (omega (arith, low, ap length arcs)))

-- the sources of the queues
sources_are : (c : After-take_shelf-firsts) (made : List Source) (arcs : List ℕ) → arcs ≡ arcs_at c.args.ends.now c.args.worker_number → made ≡ map (source_of c.args.live.now.graph c.first_of-first.result) arcs → made ≡ map (source_of c.args.live.now.graph (first_of c.args.worker_count (stations c.args.live.now.graph) c.args.worker_number)) (arcs_at c.args.ends.now c.args.worker_number)
sources_are c made arcs are made_is =
    let g = c.args.live.now.graph in
    made_is
    ∙ ap (map (source_of g c.first_of-first.result)) are
    ∙ ap (λ n. map (source_of g n) (arcs_at c.args.ends.now c.args.worker_number)) (first_is c)

pub new_shelf-requires-clause-count : goal.new_shelf-requires-clause-count
new_shelf-requires-clause-count c =
    let arcs = c.take_shelf-firsts.result.1.items in
    let firsts = c.take_shelf-firsts.result.0.items in
    omega (arith, ap length c.in_ok-sources.ensures, length-map arcs (source_of c.args.live.now.graph c.first_of-first.result), ap length c.take_shelf-firsts.ensures.arcs, c.requires.sources.count, ap length c.take_shelf-firsts.ensures.tokens, length-map firsts (λ (tokens : Vec ℕ Global). tokens.items))

pub new_shelf-requires-clause-there : goal.new_shelf-requires-clause-there
new_shelf-requires-clause-there c q low =
    let from = (goal.at.new_shelf-requires-clause-there c).After-take_shelf-firsts in
    let g = c.args.live.now.graph in
    let arcs = c.take_shelf-firsts.result.1.items in
    let made = c.in_ok-sources.ensures in
    let there : q < length arcs = omega (arith, low, ap length made, length-map arcs (source_of g c.first_of-first.result)) in
    let own = own_from from arcs c.take_shelf-firsts.ensures.arcs q there in
    let is = ap (λ (l : List Source). (source_at l q).station) made
    ∙ ap (λ (s : Source). s.station) (get_or-map (source_of g c.first_of-first.result) arcs q 0 (record { station = 0; delay = 0 }) there) in
    omega (arith, is, own.0, own.1, c.in_ok-logs.ensures.count)

pub new_shelf-requires-clause-few : goal.new_shelf-requires-clause-few
new_shelf-requires-clause-few c = c.in_ok-logs.ensures.logs.few

pub new-requires : goal.new-requires
new-requires c =
    let from = (goal.at.new-requires c).After-take_shelf-firsts in
    let g = c.args.live.now.graph in
    let begun = c.args.state.now.state in
    let W = c.args.worker_count in
    let w = c.args.worker_number in
    let ends = c.args.ends.now in
    let first = first_of W (stations g) w in
    let made = c.in_ok-stations.stations.items in
    let logs = c.in_ok-logs.logs.items in
    let taken : AreNewStations g begun c.first_of-first.result (record ends { shelves = set ends.shelves w []; arcs = set ends.arcs w [] }) made =
    subst (λ (e : QueueEnds). AreNewStations g begun c.first_of-first.result e made) c.take_shelf-firsts.ensures.rest c.in_ok-stations.ensures.made in
    let are : AreNewStations g begun first ends made =
    subst (λ (n : ℕ). AreNewStations g begun n ends made) (first_is from) (record { each = taken.each }) in
    let firsts = c.take_shelf-firsts.result.0.items in
    let tokens = map (λ (tokens : Vec ℕ Global). tokens.items) firsts in
    let queues : length c.in_ok-shelf.shelf.queues ≡ length (firsts_at ends w) =
    ap length c.in_ok-shelf.ensures.queues ∙ length-map tokens (new_queue (jobs g)) ∙ ap length c.take_shelf-firsts.ensures.tokens in
    new-stands g begun W w ends c.in_ok-shelf.shelf made logs (any_station from) c.requires.worker_number
    (omega (arith, c.in_ok-stations.ensures.count, first_is from, next_is from))
    are c.in_ok-stations.ensures.logs
    (omega (arith, c.in_ok-logs.ensures.count, c.in_ok-stations.ensures.count))
    c.in_ok-shelf.ensures.logs
    (c.in_ok-shelf.ensures.sources ∙ sources_are from c.in_ok-sources.sources.items c.take_shelf-firsts.result.1.items c.take_shelf-firsts.ensures.arcs c.in_ok-sources.ensures)
    queues c.requires.sources
