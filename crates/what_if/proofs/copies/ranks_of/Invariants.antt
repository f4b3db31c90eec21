use Rattle.what_if.proofs.Made.{AreMade, copied}
use Rattle.what_if.proofs.copies.ranks_of.Given as goal

abbrev pub invariant-loop-t : goal.invariant-loop-t
invariant-loop-t l = AreMade (copied l.live.ranks) l.stations l.t l.ranks
