use Rattle.station_step.specs.Fronts.{FrontsUpTo}
use Rattle.station_step.specs.Noted.{inputs_of, extras_of, delays_into}
use Rattle.station_step.proofs.fronts.fronts_of.Given as goal

abbrev pub invariant-loop-k : goal.invariant-loop-k
invariant-loop-k l = FrontsUpTo l.k (delays_into l.graph l.t) (extras_of l.inputs.items) (inputs_of l.inputs.items) l.fronts.items
