use Rattle.station_step.specs.Counts.{one_returned}
use Rattle.station_step.proofs.TakenFronts.{ChangedUpTo}
use Rattle.station_step.proofs.fronts.give_back.Given as goal

abbrev pub invariant-loop-front : goal.invariant-loop-front
invariant-loop-front l = ChangedUpTo one_returned l.front-index l.fronts l.initial.tallies l.tallies
