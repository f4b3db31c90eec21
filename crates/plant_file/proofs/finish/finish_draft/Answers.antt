use Rattle.std.proofs.Common.{Err, refl, subst, ap, ◌∙◌}
use Rattle.plant_model.specs.Refusals.{whole_refusals}
use Rattle.plant_file.specs.Draft.{IsSoundDraft}
use Rattle.plant_file.specs.Finish.{AnswersPlant, plant_or_first, plant_with}
use Rattle.plant_file.proofs.PlantParts.{HasColumns-within, AreDates-from, parts-none}
use Rattle.plant_file.proofs.FinishAnswers.{AnswersPlant-refused}
use Rattle.plant_file.proofs.LeftOut.{plant-left_out, first-counted, answer-counted}
use Rattle.plant_file.proofs.finish.finish_draft.Goals as goal

pub plant_with-requires : goal.plant_with-requires
plant_with-requires c =
    let sound = subst IsSoundDraft c.into_plant-draft.ensures.plant c.into_plant-draft.ensures.sound in
    rw (c.table_within-times.ensures, c.into_plant-draft.ensures.plant)
    (record { columns = HasColumns-within c.args.draft _ c.args.times sound c.requires.times_columns })

pub whole_plant-requires : goal.whole_plant-requires
whole_plant-requires c =
    let sound = subst IsSoundDraft c.into_plant-draft.ensures.plant c.into_plant-draft.ensures.sound in
    let dates = AreDates-from c.args.draft c.args.dates c.requires.dates_where_used c.requires.some_dates c.requires.dates_limit in
    rw (c.in_ok-plant.ensures.plant, c.into_plant-draft.ensures.plant)
    (parts-none c.args.draft _ c.table_within-times.result sound dates c.in_ok-plant.ensures.limit)

pub returns-in-Err-clause-plant : goal.returns-in-Err-clause-plant
returns-in-Err-clause-plant c =
    let d = c.into_plant-draft.result in
    let found = rw c.as_slice.ensures at c.in-Err.ensures in
    rw (← c.into_plant-draft.ensures.plant)
    (AnswersPlant-refused (Err c.in-Err.refusal) (whole_refusals (plant_with d _ c.args.times)) (plant_with d _ c.args.times)
    refl
    (λ ne. first-counted d _ c.args.times c.count_demands-jobs.result _ c.count_demands-jobs.ensures (found ne)))

pub returns-clause-plant : goal.returns-clause-plant
returns-clause-plant c =
    let d = c.into_plant-draft.result in
    let plant = plant-left_out _ d _ c.count_demands-jobs.result _ _ c.args.times c.in_ok-plant.ensures.plant c.table_within-times.ensures c.as_slice-2.ensures in
    let counted = rw c.as_slice.ensures at c.in-Ok.ensures in
    let answer = ap (λ p. plant_or_first (whole_refusals p) p) plant ∙ answer-counted d _ c.args.times c.count_demands-jobs.result c.count_demands-jobs.ensures counted in
    rw (← c.into_plant-draft.ensures.plant)
    (subst (AnswersPlant c.whole_plant.result) answer c.whole_plant.ensures.plant)
