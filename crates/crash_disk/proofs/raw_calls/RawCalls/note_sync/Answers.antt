use borrow.Author.Rules.{rules, lives}
use Rattle.crash_disk.proofs.raw_calls.RawCalls.note_sync.Goals as goal

-- what is noted lives as long as the call
pub of-self-requires : goal.of-self-requires
of-self-requires c κs within = search (rules, lives, within) depth 24 fits 20000
