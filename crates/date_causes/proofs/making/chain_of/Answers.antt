use Rattle.std.proofs.Common.{◌≡◌, ap, ◌∙◌}
use Rattle.event_graph.specs.Network.{stations}
use Rattle.event_graph.specs.Table.{date_in}
use Rattle.date_causes.specs.Caused.{IsOfPlant}
use Rattle.date_causes.proofs.Writable.{chain_stations, chain_small, writable}
use Rattle.date_causes.proofs.making.chain_of.Goals as goal
use Rattle.date_causes.proofs.making.chain_of.Goals.{After-as_slice, After-stations}

listed : (c : After-as_slice) → c.as_slice.result.now ≡ c.in_ok-links.links
listed c = cc (c.as_slice.ensures, c.links.view_is)

counted : (c : After-stations) → c.stations.result ≡ stations c.args.live.now.graph
counted c = c.stations.ensures.count ∙ ap stations c.graph.ensures.graph

pub shares_of-requires-clause-stations : goal.shares_of-requires-clause-stations
shares_of-requires-clause-stations c =
    chain_stations c.args.live.now.graph (date_in c.args.table.now.rows) c.args.t c.args.n c.in_ok-links.links c.as_slice.result.now c.stations.result
    c.in_ok-links.ensures.chain (listed (goal.at.shares_of-requires-clause-stations c).After-as_slice) (counted c)

pub shares_of-requires-clause-small : goal.shares_of-requires-clause-small
shares_of-requires-clause-small c =
    chain_small c.args.table.now c.args.live.now.graph c.args.t c.args.n c.in_ok-links.links c.as_slice.result.now
    c.stations-least.ensures.least c.in_ok-links.ensures.chain (listed (goal.at.shares_of-requires-clause-small c).After-as_slice)

pub returns-clause-writable : goal.returns-clause-writable
returns-clause-writable c =
    let at = goal.at.returns-clause-writable c in
    let of_plant : IsOfPlant c.args.plant.now c.in_ok-numbers.numbers c.args.live.now.graph =
    record { sound = c.requires.of_plant.sound; numbers_are = c.in_ok-numbers.ensures; graph_is = c.requires.of_plant.live_graph } in
    writable c.args.plant.now c.args.live.now.graph (date_in c.args.table.now.rows) c.args.t c.args.n c.stations.result c.as_slice.result.now _ of_plant
    c.in_ok-links.ensures.chain (listed at.After-as_slice) (counted at.After-stations) c.in_ok-shares.ensures

pub causes-requires-clause-station : goal.causes-requires-clause-station
causes-requires-clause-station c = rw c.requires.of_plant.live_graph c.requires.station

pub causes-requires-clause-job : goal.causes-requires-clause-job
causes-requires-clause-job c = rw c.requires.of_plant.live_graph c.requires.job

pub returns-clause-chain : goal.returns-clause-chain
returns-clause-chain c = rw c.requires.of_plant.live_graph at c.in_ok-links.ensures.chain
