use Rattle.std.proofs.Common.{◌∙◌}
use Rattle.plant_lint.proofs.DraftLints.{lints_of}
use Rattle.plant_lint.proofs.draft.lint_tables.Goals as goal

pub assemble_plant-requires : goal.assemble_plant-requires
assemble_plant-requires c = c.requires

pub lint_whole-requires : goal.lint_whole-requires
lint_whole-requires c = record {
  feeds = c.in-Ok-assemble_plant.ensures.feeds;
  sound = c.in-Ok-assemble_plant.ensures.sound;
}

pub returns-in-Ok-assemble_plant : goal.returns-in-Ok-assemble_plant
returns-in-Ok-assemble_plant c =
    lints_of _ _ c.in-Ok-assemble_plant.plant _ c.lint_whole.result
    (c.text_in.ensures ∙ c.in-Ok.ensures ∙ c.demands_file.ensures) c.in-Ok-assemble_plant.ensures.plant c.lint_whole.ensures
