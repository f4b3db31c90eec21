use Rattle.std.proofs.Common.{◌≡◌, ◌++◌, map, take, drop}
use Rattle.live_check.specs.Ranking.{from_end}
use Rattle.live_check.proofs.ranking.turn_round.Given as goal

abbrev pub invariant-loop-rank : goal.invariant-loop-rank
invariant-loop-rank l =
    l.rank-items ≡ map (from_end l.stations) (take l.rank-index l.initial.rank-items) ++ drop l.rank-index l.initial.rank-items
