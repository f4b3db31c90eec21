use Rattle.std.proofs.Common.{arith}
use Rattle.std.proofs.lemmas.Bool.{false≢true}
use Rattle.cycle_time.proofs.Circuits.{not_left}
use Rattle.cycle_time.proofs.circuit.leave.Goals as goal

pub returns : goal.returns
returns c = (
  λ no. absurd (false≢true no),
  λ found. absurd (not_left c.args.graph.now c.args.arcs.now c.args.station (λ k low. c.loop-a.invariant k (omega arith)) found),
)
