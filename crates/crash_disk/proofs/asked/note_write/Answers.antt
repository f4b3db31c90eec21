use borrow.Author.Rules.{rules, lives}
use Rattle.crash_disk.proofs.asked.note_write.Goals as goal

-- what is noted lives as long as the call
pub of-requires : goal.of-requires
of-requires c κs within = search (rules, lives, within) depth 24 fits 20000
