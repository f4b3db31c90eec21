use Rattle.std.proofs.Common.{◌≡◌, ◌∙◌, sym, ap, subst}
use Rattle.plant_model.specs.Sound.{IsSound}
use Rattle.card_sizing.specs.Counted.{with_counts}
use Rattle.card_sizing.specs.Lowered.{with_count}
use Rattle.card_sizing.proofs.CountedPlants.{sound_counted}
use Rattle.card_sizing.proofs.StageSearches.{fit_with}
use Rattle.card_sizing.proofs.lowering.try_counts.Goals as goal

pub try_plant-known-requires : goal.try_plant-known-requires
try_plant-known-requires c =
    let p = c.args.plant.now in
    let counts = with_count c.args.counts.now c.args.stage c.args.count in
    let is : c.in_ok-counted.counted ≡ with_counts p counts = c.in_ok-counted.ensures ∙ ap (with_counts p) (c.as_slice.ensures.value ∙ c.in_ok-with.ensures) in
    let fit = fit_with p c.requires.sound c.requires.counts c.args.counts.now c.args.stage c.args.count c.requires.fit c.requires.stage c.requires.enough c.requires.few in
    subst IsSound (sym is) (sound_counted p counts c.requires.sound c.requires.counts fit)
