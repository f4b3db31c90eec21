use Rattle.line_base.specs.Roomy.{dates_of}
use Rattle.event_graph.specs.Network.{arc_count}
use Rattle.line_core.specs.Parts.{wrong_marking}
use Rattle.line_core.proofs.FirstRefusals.{NoneBelow}
use Rattle.line_core.proofs.parts.check_markings.Given as goal

abbrev pub invariant-loop-arc : goal.invariant-loop-arc
invariant-loop-arc l = NoneBelow (arc_count l.graph) (wrong_marking l.graph (dates_of l.logs) (dates_of l.places)) l.arc
