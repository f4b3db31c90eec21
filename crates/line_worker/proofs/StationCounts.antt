-- How many stations a worker has, and how many dates and turns they can have made.
use Rattle.std.proofs.Common.{ℕ, ◌+◌, ◌*◌, ◌<◌, ◌≤◌, List, length, get_or, sum_by, ap, arith}
use Rattle.std.proofs.lemmas.Nat.{mul-le}
use Rattle.std.proofs.lemmas.List.Elements.{All-from_get_or}
use Rattle.std.proofs.lemmas.List.Sums.{sum_by-le}
use Rattle.line_base.specs.declared.limits.TheConstants.{MAX_STATIONS, MAX_DEMANDS}
use Rattle.event_graph.specs.Network.{stations, jobs}
use Rattle.line_worker.specs.Team.{member}
use Rattle.line_worker.specs.Worker.{LineWorker, IsWorker}
use Rattle.line_worker.specs.Work.{dates_of}
use Rattle.line_worker.proofs.Share.{first-rises, first-all}

pub worker-within : (c : LineWorker) → IsWorker c → c.first + length c.team.stations ≤ stations c.live.graph
worker-within c is =
    let T = stations c.live.graph in
    let some : 1 ≤ c.worker_count = omega (arith, is.exists) in
    let any = is.ranked.limits.some_station in
    omega (arith, is.ends, first-rises c.worker_count T some any (c.worker_number + 1) c.worker_count (omega (arith, is.exists)), first-all c.worker_count T some any)

pub worker-few : (c : LineWorker) → IsWorker c → length c.team.stations ≤ MAX_STATIONS
worker-few c is = omega (arith, worker-within c is, is.ranked.limits.few_stations)

pub dates-few : (c : LineWorker) (i : ℕ) → IsWorker c → i < length c.team.stations → dates_of (member c.team.stations i) ≤ c.target
dates-few c i is low =
    let m = is.members.members i low in
    omega (arith, m.station.few_dates, ap jobs m.graph, is.target)

pub target-few : (c : LineWorker) → IsWorker c → c.target ≤ MAX_DEMANDS
target-few c is = omega (arith, is.target, is.ranked.limits.few_jobs)

-- its list for the logs has room for those of its own stations
pub spare_fits : (c : LineWorker) → IsWorker c → length c.spare.logs + length c.team.stations ≤ c.spare.room
spare_fits c is = omega (arith, ap length is.spare, is.spare_room, worker-within c is)

-- a sum over as many stations as there can be, none of its terms above this one
pub sum-few : {X : Type 0} (f : X → ℕ) (most : ℕ) (xs : List X) (d : X) → length xs ≤ MAX_STATIONS → ((i : ℕ) → i < length xs → f (get_or xs i d) ≤ most) → sum_by f xs ≤ MAX_STATIONS * most
sum-few f most xs d few each =
    omega (arith, sum_by-le f most xs (All-from_get_or (λ x. f x ≤ most) xs d each), mul-le (length xs) most MAX_STATIONS most few (omega arith))
