use Rattle.std.proofs.Common.{ap, ◌∙◌}
use Rattle.line_base.specs.declared.event.Parts.{Parts}
use Rattle.event_graph.specs.Network.{arc}
use Rattle.line_setup.proofs.LaidEnds.{laid_ring_read, on_ok}
use Rattle.line_setup.proofs.laying.Ends.join_between.Goals as goal

pub returns : goal.returns
returns c =
    let asked = c.requires in
    on_ok c.lay.result _ _ (
    laid_ring_read c.args.start.now c.args.self.now c.lay.new.self c.args.a c.arc-arc.result c.in_ok-outlet.outlet c.in_ok-outlet.inlet c.graph.ensures.ranked.sound asked.arc (c.arc-arc.ensures.arc ∙ ap (λ (p : Parts). arc p c.args.a) c.graph.ensures.graph) asked.laid asked.two asked.room c.in_ok-outlet.ensures)
    c.lay.ensures
