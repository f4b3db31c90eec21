use Rattle.std.proofs.Common.{ap, sym, ◌∙◌}
use Rattle.std.specs.Prelude.{Ok}
use Rattle.toml.specs.View.{view}
use Rattle.plant_lint.proofs.NoToml.{sound_lint, sound_reading}
use Rattle.plant_lint.specs.declared.lint.Lint.TheVariants.{Sound}
use Rattle.plant_lint.proofs.file.with_notes.Goals as goal

pub returns-in-Ok : goal.returns-in-Ok
returns-in-Ok c =
    let top = view c.args.top.now in
    (sound_lint top c.requires.sound ∙ ap Sound (sym (c.from_string.ensures ∙ c.in-Ok.ensures)), sound_reading top c.requires.sound ∙ ap Ok (sym c.requires.draft))
