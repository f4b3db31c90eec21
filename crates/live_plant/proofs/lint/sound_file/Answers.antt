use Rattle.std.proofs.Common.{inl, refl}
use Rattle.plant_lint.specs.declared.lint.Lint.TheVariants as lint
use Rattle.live_plant.proofs.lint.sound_file.Goals as goal

pub returns-in-Ok-Sound : goal.returns-in-Ok-Sound
returns-in-Ok-Sound c =
    let read = rw c.in-Ok-Sound.field-0-is at c.in-Ok-Sound.ensures in inl (rw c.as_slice.ensures at read)

pub returns-in-Ok-Refused : goal.returns-in-Ok-Refused
returns-in-Ok-Refused c =
    let read = rw c.in-Ok-Refused.field-0-is at c.in-Ok-Refused.ensures in
    inl (record { said = lint.Refused c.in-Ok-Refused.lines; lints = rw c.as_slice.ensures at read; refused = refl })
