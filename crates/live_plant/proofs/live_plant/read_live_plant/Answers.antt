use Rattle.std.specs.Prelude.{Err}
use Rattle.std.proofs.lemmas.Result.{err_from_is_err_and}
use Rattle.plant_model.specs.declared.plant.Plant.{Plant}
use Rattle.live_plant.specs.Steps.{Settles}
use Rattle.live_plant.specs.PlantSteps.{OfPlantFile}
use Rattle.live_plant.specs.LiveSteps.{IsLiveOrDead}
use Rattle.live_plant.proofs.PlantsOfFiles.{makes_named, makes_live}
use Rattle.live_plant.proofs.StepLemmas.{then_stops}
use Rattle.live_plant.proofs.live_plant.read_live_plant.Goals as goal

pub returns-in_err-plant-clause-makes : goal.returns-in_err-plant-clause-makes
returns-in_err-plant-clause-makes g c =
    let tells = g.S.Store.tells in
    let old = g.S.Store.shown c.args.store.now in
    let new = g.S.Store.shown c.read_plant_files.new.store in
    let stop = c.in_err-plant.field-0.0 in
    let p = err_from_is_err_and c.from_residual.result c.from_residual.ensures.1 in
    rw (p.1, p.2) (makes_named tells old new c.args.name.now (Err stop)
    (then_stops tells old new (OfPlantFile c.args.name.now) (λ (p : Plant). Settles (IsLiveOrDead p)) stop c.in_err-plant.ensures.makes))

pub returns-clause-makes : goal.returns-clause-makes
returns-clause-makes g c =
    let made = c.live_plant_of.ensures in
    makes_live g.S.Store.tells (g.S.Store.shown c.args.store.now) (g.S.Store.shown c.read_plant_files.new.store) c.args.name.now c.in_ok-plant.plant c.live_plant_of.result c.in_ok-plant.ensures.makes made.plant made.live made.dead
