use Rattle.std.proofs.Common.{ap, length, arith}
use Rattle.line_base.specs.Roomy.{dates_of}
use Rattle.event_graph.specs.Network.{arc_count}
use Rattle.line_core.specs.Parts.{wrong_marking}
use Rattle.line_core.proofs.FirstRefusals.{none_below_all, handed_on_at}
use Rattle.line_core.proofs.parts.check_markings.Goals as goal

pub returns-in_err-check_marking : goal.returns-in_err-check_marking
returns-in_err-check_marking c =
    handed_on_at (arc_count c.args.graph.now) (wrong_marking c.args.graph.now (dates_of c.args.logs.now) (dates_of c.args.places.now)) c.loop-arc.arc c.from_residual.result c.from_residual.ensures.1 (omega (arith, ap length c.arcs.ensures.arcs, c.loop-arc-test.true)) c.in_err-check_marking.ensures c.loop-arc.invariant

pub returns : goal.returns
returns c = none_below_all (arc_count c.args.graph.now) (wrong_marking c.args.graph.now (dates_of c.args.logs.now) (dates_of c.args.places.now)) c.loop-arc.arc (omega (arith, ap length c.arcs.ensures.arcs, c.loop-arc-test.false)) c.loop-arc.invariant
