use Rattle.line_base.specs.Roomy.{dates_of}
use Rattle.event_graph.specs.Network.{stations}
use Rattle.line_core.specs.Parts.{long_log}
use Rattle.line_core.proofs.FirstRefusals.{NoneBelow}
use Rattle.line_core.proofs.parts.check_logs.Given as goal

abbrev pub invariant-loop-station : goal.invariant-loop-station
invariant-loop-station l = NoneBelow (stations l.graph) (long_log l.graph (dates_of l.logs)) l.station
