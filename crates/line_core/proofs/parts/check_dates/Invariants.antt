use Rattle.line_base.specs.Roomy.{dates_of}
use Rattle.event_graph.specs.Network.{stations}
use Rattle.line_core.specs.Parts.{wrong_dates_at}
use Rattle.line_core.proofs.FirstRefusals.{NoneBelow}
use Rattle.line_core.proofs.parts.check_dates.Given as goal

abbrev pub invariant-loop-station : goal.invariant-loop-station
invariant-loop-station l = NoneBelow (stations l.graph) (wrong_dates_at l.graph (dates_of l.logs)) l.station
