use Rattle.cycle_time.proofs.Rounds.{IsAfter}
use Rattle.cycle_time.proofs.search.search.Given as goal

abbrev pub invariant-loop-turn : goal.invariant-loop-turn
invariant-loop-turn l = IsAfter l.live.graph l.fn.weighing l.tree l.turn
