use Rattle.std.proofs.Common.{refl}
use Rattle.checkpoint.specs.Text.{date_words}
use Rattle.checkpoint.proofs.writer.put_log.Goals as goal

pub put_log_behind-requires-clause-words : goal.put_log_behind-requires-clause-words
unfolding date_words
put_log_behind-requires-clause-words c = refl
