use Rattle.std.proofs.Common.{ℕ, List, Bor, ◌∙◌, refl, sym}
use Rattle.std.specs.Prelude.{option_map}
use Rattle.plant_model.specs.Refusals.{whole_refusals}
use Rattle.plant_check.specs.PlantNotes.{plant_notes}
use Rattle.plant_lint.specs.Remarks.{plant_remark}
use Rattle.plant_lint.proofs.DraftLints.{none_refused}
use Rattle.plant_lint.proofs.draft.lint_whole.Goals as goal

pub returns-in-Ok-Sound : goal.returns-in-Ok-Sound
returns-in-Ok-Sound c =
    let said = sym c.in-Ok-Sound.ensures ∙ c.in-Ok-Sound.field-0-is in
    (said, refl, c.requires.sound (none_refused (plant_remark c.args.plant) (whole_refusals c.args.plant) (plant_notes (option_map (λ (name : Bor (List ℕ)). name.now) c.args.file) c.args.plant) c.in-Ok-Sound.notes said))
