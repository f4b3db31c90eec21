use Rattle.std.proofs.Common.{◌≡◌, ◌≢◌, ap, sym, inl}
use Rattle.std.specs.Prelude.{Ok, Err}
use Rattle.plant_file.specs.Finish.{completed_plant}
use Rattle.plant_model.specs.declared.error.PlantError.TheVariants as plant_error
use Rattle.live_plant.specs.PlantSteps.{or_refused}
use Rattle.live_plant.proofs.FileReads.{refusal_answers}
use Rattle.live_plant.proofs.files.plant_of.Goals as goal

pub returns-in-Ok-clause-plant : goal.returns-in-Ok-clause-plant
returns-in-Ok-clause-plant c =
    let files = c.args.files.now in
    let given : completed_plant c.args.draft files.demands files.times ≡ Ok c.in-Ok.plant = rw (← c.slice_of.ensures, ← c.slice_of-2.ensures) c.in-Ok.ensures.plant in
    inl (sym (ap or_refused given))

pub returns-in-Err-clause-plant : goal.returns-in-Err-clause-plant
returns-in-Err-clause-plant c =
    let files = c.args.files.now in
    let error = c.in-Err.error in
    let asked = completed_plant c.args.draft files.demands files.times in
    let given : error ≢ plant_error.NoMemory → asked ≡ Err error = λ other. rw (← c.slice_of.ensures, ← c.slice_of-2.ensures) (c.in-Err.ensures.plant other) in
    rw c.refusal_of.ensures (refusal_answers asked error given)
