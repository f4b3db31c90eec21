use Rattle.std.proofs.Common.{◌*◌, ◌^◌, ◌≤◌, sum_by, rules, arith}
use Rattle.std.proofs.lemmas.Iterator.{YieldsList-from_slice, YieldsList-from_map}
use Rattle.std.proofs.lemmas.Iterator.Consumers.{sum_by_from_yields_List, fits_by_from_yields_list}
use Rattle.line_base.specs.declared.limits.TheConstants.{MAX_STATIONS}
use Rattle.line_worker.specs.Team.{no_station}
use Rattle.line_worker.specs.Work.{turns_of}
use Rattle.line_worker.proofs.StationCounts.{sum-few}
use Rattle.line_worker.proofs.counts.turns_made.Goals as goal
use Rattle.line_worker.proofs.counts.turns_made.Goals.{After-map}

few : (c : After-map) → sum_by turns_of c.args.stations.now.items ≤ MAX_STATIONS * 2 ^ 40
few c = sum-few turns_of (2 ^ 40) c.args.stations.now.items no_station c.requires.count (λ i low. omega (arith, c.requires.few i low))

pub sum-requires-clause-fits : goal.sum-requires-clause-fits
sum-requires-clause-fits c =
    let stations = c.args.stations.now.items in
    fits_by_from_yields_list turns_of stations _ _ (YieldsList-from_map _ turns_of (YieldsList-from_slice stations cc) c.map.ensures.closure (λ x r q k. search rules)) (omega (arith, few c))

pub returns : goal.returns
returns c =
    let stations = c.args.stations.now.items in
    let turns =
    sum_by_from_yields_List turns_of stations _ c.sum.result c.sum.ensures.ran (YieldsList-from_map _ turns_of (YieldsList-from_slice stations cc) c.map.ensures.closure (λ x r q k. search rules)) in
    record { turns = turns; few = omega (arith, turns, few (goal.at.returns c).After-map) }
