-- What lint says beside what a plant file is refused for.
use Rattle.std.specs.Prelude.{Bool, true, false}
use Rattle.plant_lint.specs.declared.lint.Lint.{Lint}
use Rattle.plant_lint.specs.declared.lint.Lint.TheVariants.{Refused, Sound}

-- lint says that nothing is wrong with a file by itself
abbrev pub is_sound : Lint → Bool
is_sound (Refused lines) = false
is_sound (Sound notes) = true
