use Rattle.std.proofs.Common.{◌≡◌, ℕ, ◌<◌, ◌≤◌, sym, arith}
use Rattle.plant_model.specs.Line.{release, receiver, station_count}
use Rattle.plant_model.specs.Graph.{graph}
use Rattle.event_graph.specs.Table.{date_in}
use Rattle.event_graph.specs.Solves.{Solves}
use Rattle.line_stats.specs.Counts.{standing}
use Rattle.line_stats.specs.Between.{between}
use Rattle.line_stats.proofs.PlantTables.{exists_in, numbered_in, solves_in, starting-small}
use Rattle.line_stats.proofs.StationRows.{row-in_order, row-short, row-done}
use Rattle.line_stats.proofs.StandingParts.{standing-is, peak-is, most-bounded}
use Rattle.line_stats.proofs.peaks.peak.Goals.{After-release, After-receiver, After-most_between}
use Rattle.line_stats.proofs.peaks.peak.Goals as goal

-- the two stations
released : (c : After-release) → (c.release.result ≡ release c.args.plant.now c.args.stage) × (c.release.result < station_count c.args.plant.now)
released c =
    numbered_in c.args.plant.now _ c.release.result (λ q. release q c.args.stage) c.requires.numbers c.release.ensures.station c.release.ensures.exists

takes : (c : After-receiver) → (c.receiver.result ≡ receiver c.args.plant.now c.args.stage) × (c.receiver.result < station_count c.args.plant.now)
takes c =
    numbered_in c.args.plant.now _ c.receiver.result (λ q. receiver q c.args.stage) c.requires.numbers c.receiver.ensures.station c.receiver.ensures.exists

pub receiver-requires-clause-plant : goal.receiver-requires-clause-plant
receiver-requires-clause-plant c = sym c.requires.numbers

pub dates-released-requires : goal.dates-released-requires
dates-released-requires c =
    exists_in c.args.plant.now c.args.table.now.graph c.release.result c.requires.of_plant (released (goal.at.dates-released-requires c).After-release).1

pub dates-taken-requires : goal.dates-taken-requires
dates-taken-requires c =
    exists_in c.args.plant.now c.args.table.now.graph c.receiver.result c.requires.of_plant (takes (goal.at.dates-taken-requires c).After-receiver).1

pub most_between-requires : goal.most_between-requires
most_between-requires c =
    let p = c.args.plant.now in
    let d = c.args.table.now in
    let from = released (goal.at.most_between-requires c).After-release in
    let to = takes (goal.at.most_between-requires c).After-receiver in
    record {
      entered_in_order = row-in_order p d c.release.result _ c.requires.of_plant c.dates-released.ensures.least from.1 c.dates-released.ensures.dates;
      left_in_order = row-in_order p d c.receiver.result _ c.requires.of_plant c.dates-taken.ensures.least to.1 c.dates-taken.ensures.dates;
      few = row-short p d c.release.result _ c.requires.of_plant c.dates-released.ensures.least from.1 c.dates-released.ensures.dates;
      small = omega (arith, starting-small p c.args.stage c.requires.sound c.requires.exists, c.starting.ensures);
    }

solves : (c : After-most_between) → Solves (graph c.args.plant.now) (date_in c.args.table.now.rows)
solves c = solves_in c.args.plant.now c.args.table.now c.requires.of_plant c.dates-released.ensures.least

-- what is between the two stations is what the stage has
level : (c : After-most_between) (v : ℕ) → between c.dates-released.result.now c.dates-taken.result.now c.starting.result v ≡ standing c.args.plant.now (date_in c.args.table.now.rows) c.args.stage v
level c v =
    let p = c.args.plant.now in
    let d = c.args.table.now in
    let i = c.args.stage in
    let table = c.dates-released.ensures.least in
    let from = numbered_in p _ c.release.result (λ q. release q i) c.requires.numbers c.release.ensures.station c.release.ensures.exists in
    let to = numbered_in p _ c.receiver.result (λ q. receiver q i) c.requires.numbers c.receiver.ensures.station c.receiver.ensures.exists in
    let released = row-done p d c.release.result c.dates-released.result.now c.requires.of_plant table from.1 c.dates-released.ensures.dates (release p i) v from.0 in
    let taken = row-done p d c.receiver.result c.dates-taken.result.now c.requires.of_plant table to.1 c.dates-taken.ensures.dates (receiver p i) v to.0 in
    omega (arith, standing-is p (date_in d.rows) i v c.requires.sound (solves c) c.requires.exists, c.starting.ensures)

covers : (c : After-most_between) (v : ℕ) → standing c.args.plant.now (date_in c.args.table.now.rows) c.args.stage v ≤ c.most_between.result
covers c v = omega (arith, level c v, c.most_between.ensures.covers v)

least : (c : After-most_between) (bound : ℕ) → ((v : ℕ) → standing c.args.plant.now (date_in c.args.table.now.rows) c.args.stage v ≤ bound) → c.most_between.result ≤ bound
least c bound all = c.most_between.ensures.least bound (λ v. let h = all v in omega (arith, level c v))

pub returns-clause-peak : goal.returns-clause-peak
returns-clause-peak c =
    peak-is c.args.plant.now (date_in c.args.table.now.rows) c.args.stage c.most_between.result c.requires.sound (solves c) c.requires.exists (covers c) (least c)

pub returns-clause-covers : goal.returns-clause-covers
returns-clause-covers c = covers c

pub returns-clause-bounded : goal.returns-clause-bounded
returns-clause-bounded c =
    most-bounded c.args.plant.now (date_in c.args.table.now.rows) c.args.stage c.most_between.result c.requires.sound (solves c) c.requires.exists (least c)
