use Rattle.std.proofs.Common.{◌<◌, get_or, sym, ap, ◌∙◌, subst}
use Rattle.plant_model.specs.declared.plant.Plant.{Plant}
use Rattle.plant_model.specs.Line.{release, last_machine, receiver, station_count}
use Rattle.line_stats.proofs.PlantTables.{travel-read}
use Rattle.line_chart.proofs.StillCounts.{NothingAt, nothing_at, parts-still, under_way-still}
use Rattle.line_chart.proofs.dates.next_of_stage.Goals as goal

pub next_at-released-requires-clause-station : goal.next_at-released-requires-clause-station
next_at-released-requires-clause-station c = subst (λ (p : Plant). c.release.result < station_count p) c.requires.run.numbers c.release.ensures.exists

pub next_at-done-requires-clause-station : goal.next_at-done-requires-clause-station
next_at-done-requires-clause-station c = subst (λ (p : Plant). c.last_machine-last.result < station_count p) c.requires.run.numbers c.last_machine-last.ensures.exists

pub next_at-arrived-requires-clause-station : goal.next_at-arrived-requires-clause-station
next_at-arrived-requires-clause-station c = subst (λ (p : Plant). c.last_machine-last.result < station_count p) c.requires.run.numbers c.last_machine-last.ensures.exists

pub next_at-requires-clause-station : goal.next_at-requires-clause-station
next_at-requires-clause-station c = subst (λ (p : Plant). c.receiver.result < station_count p) c.requires.run.numbers c.receiver.ensures.exists

-- nothing happens at the stage before the next date of its stations
nothing : (c : goal.After-next_at) → NothingAt c.args.run.now.plant c.args.run.now.table c.args.stage c.args.at c.next_at.result
nothing c =
    let p = c.args.run.now.plant in
    let d = c.args.run.now.table in
    let i = c.args.stage in
    let numbers = c.requires.run.numbers in
    let r_is = c.release.ensures.station ∙ ap (λ q. release q i) numbers in
    let l_is = c.last_machine-last.ensures.station ∙ ap (λ q. last_machine q i) numbers in
    let t_is = c.receiver.ensures.station ∙ ap (λ q. receiver q i) numbers in
    let travel_is = travel-read p i c.as_slice.result.now c.index-as_slice-stage.result c.requires.exists c.as_slice.ensures in
    nothing_at p d i c.args.at (get_or c.as_slice.result.now c.args.stage c.index-as_slice-stage.result).travel c.release.result c.last_machine-last.result c.receiver.result c.next_at-released.result c.next_at-done.result c.next_at-arrived.result c.next_at.result c.requires.run.of_plant.sound c.next_at.ensures.least c.requires.run.of_plant.table_graph c.requires.exists r_is l_is t_is travel_is c.next_at-released.ensures.none c.next_at-done.ensures.within c.next_at-done.ensures.none c.next_at-arrived.ensures.within c.next_at-arrived.ensures.none c.next_at.ensures.within c.next_at.ensures.none

pub returns-clause-parts : goal.returns-clause-parts
returns-clause-parts c =
    parts-still c.args.run.now.plant c.args.run.now.table c.args.stage c.args.at c.next_at.result (nothing c)

pub returns-clause-under_way : goal.returns-clause-under_way
returns-clause-under_way c =
    under_way-still c.args.run.now.plant c.args.run.now.table c.args.stage c.args.at c.next_at.result (nothing c)

pub receiver-requires-clause-plant : goal.receiver-requires-clause-plant
receiver-requires-clause-plant c = sym c.requires.run.numbers
