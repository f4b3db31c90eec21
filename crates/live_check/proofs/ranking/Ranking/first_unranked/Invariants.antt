use Rattle.std.proofs.Common.{ℕ, ◌<◌, get_or, length}
use Rattle.live_check.proofs.ranking.Ranking.first_unranked.Given as goal

abbrev pub invariant-loop-t : goal.invariant-loop-t
invariant-loop-t l = (k d : ℕ) → k < l.t → get_or l.self.ranks k d < length l.self.ranks
