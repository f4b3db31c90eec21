use Rattle.std.proofs.Common.{◌≡◌, [], true, refl, subst}
use Rattle.std.specs.Prelude.{Vec, ℕ, IfSome, option_map}
use Rattle.std.specs.Global.{Global}
use Rattle.std.proofs.lemmas.Result.{IfOk-weaker}
use Rattle.plant_model.specs.Refusals.{all_feeds_not_later, parts_refusals, refusals, whole_refusals}
use Rattle.plant_model.specs.Sound.{IsSound}
use Rattle.plant_file.specs.Draft.{IsSoundDraft}
use Rattle.plant_file.specs.Finish.{plant_with, IsWithinLimit}
use Rattle.plant_file.proofs.FinishAnswers.{if_ok_both}
use Rattle.plant_file.proofs.PlantParts.{HasColumns-within, AreDates-from, feeds-none, parts-none}
use Rattle.plant_file.proofs.finish.assemble_plant.Goals as goal

pub copied_plant-requires : goal.copied_plant-requires
copied_plant-requires c =
    let sound = subst IsSoundDraft c.into_plant.ensures.plant c.into_plant.ensures.sound in
    rw c.into_plant.ensures.plant
    (record { columns = HasColumns-within c.args.draft true _ sound c.requires.times_columns })

pub returns-clause-plant : goal.returns-clause-plant
returns-clause-plant c = rw c.into_plant.ensures.plant at c.copied_plant.ensures.plant

pub returns-clause-feeds : goal.returns-clause-feeds
returns-clause-feeds c =
    let dates = option_map (λ (read : Vec ℕ Global). read.items) c.args.dates in
    IfOk-weaker c.copied_plant.result
    (λ made. made ≡ plant_with c.into_plant.result dates c.args.times)
    (λ made. all_feeds_not_later made ≡ [])
    (λ made is. rw is (feeds-none c.into_plant.result dates c.args.times c.into_plant.ensures.sound))
    c.copied_plant.ensures.plant

pub returns-clause-sound : goal.returns-clause-sound
unfolding refusals
returns-clause-sound c =
    let sound = subst IsSoundDraft c.into_plant.ensures.plant c.into_plant.ensures.sound in
    let dates = option_map (λ (read : Vec ℕ Global). read.items) c.args.dates in
    if_ok_both c.copied_plant.result
    (λ made. made ≡ plant_with c.into_plant.result dates c.args.times)
    (λ _. IfSome c.args.times IsWithinLimit)
    (λ made. whole_refusals made ≡ [] → IsSound made)
    (λ made is limit whole.
    let parts : parts_refusals made ≡ [] =
    rw (is, c.into_plant.ensures.plant)
    (parts-none c.args.draft _ _ sound (AreDates-from c.args.draft c.args.dates c.requires.dates_where_used c.requires.some_dates c.requires.dates_limit) limit) in
    record { nothing = rw (parts, whole) refl })
    c.copied_plant.ensures.plant c.copied_plant.ensures.limit

pub returns-clause-too_many : goal.returns-clause-too_many
returns-clause-too_many c = rw c.into_plant.ensures.plant at c.copied_plant.ensures.too_many
