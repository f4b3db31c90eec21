use Rattle.std.proofs.Common.{length}
use Rattle.command_line.proofs.options.+options_after.Given as goal

-- each option takes a word at least
abbrev pub decreases-options_after : goal.decreases-options_after
decreases-options_after l = length l.words.now
