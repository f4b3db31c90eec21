use Rattle.live_check.proofs.NeverLater.{never_later}
use Rattle.live_check.proofs.laws.more_tokens_never_later.Goals as goal

pub returns : goal.returns
returns c = never_later
