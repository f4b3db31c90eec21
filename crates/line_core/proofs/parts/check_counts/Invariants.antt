use Rattle.line_base.specs.Roomy.{dates_of}
use Rattle.event_graph.specs.Network.{arc_count}
use Rattle.line_core.specs.Marked.{wrong_marked}
use Rattle.line_core.proofs.FirstRefusals.{NoneBelow}
use Rattle.line_core.proofs.parts.check_counts.Given as goal

abbrev pub invariant-loop-arc : goal.invariant-loop-arc
invariant-loop-arc l = NoneBelow (arc_count l.graph) (wrong_marked l.graph (dates_of l.logs) l.marking) l.arc
