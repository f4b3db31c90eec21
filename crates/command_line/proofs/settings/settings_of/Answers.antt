use Rattle.std.proofs.Common.{refl}
use Rattle.command_line.specs.Settings.{asked_run}
use Rattle.command_line.proofs.settings.settings_of.Goals as goal

pub returns-clause-asked : goal.returns-clause-asked
unfolding asked_run
returns-clause-asked c = rw (← c.in_ok-options.ensures.given, ← c.in_ok-mode.ensures.way, c.unwrap_or.ensures) refl
