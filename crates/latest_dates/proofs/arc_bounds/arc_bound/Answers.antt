use Rattle.std.proofs.Common.{◌*◌, ap, ◌∙◌}
use Rattle.line_base.specs.declared.event.Arc.{Arc}
use Rattle.event_graph.specs.Network.{arc}
use Rattle.latest_dates.proofs.arc_bounds.arc_bound.Goals as goal

pub returns : goal.returns
returns c = record {
  first = ap (λ (x : Arc). x.to * c.jobs.result) c.arc-arc.ensures.arc ∙ ap (λ k. (arc c.args.graph.now c.args.a).to * k) c.jobs.ensures.count;
  tokens = ap (λ (x : Arc). x.tokens) c.arc-arc.ensures.arc;
  added = c.added_to_all.ensures;
}
