use Rattle.std.proofs.Common.{◌+◌, sym, ap, ◌∙◌, subst}
use Rattle.std.proofs.lemmas.Bool.{false≢true}
use Rattle.line_base.specs.declared.event.Arc.{Arc}
use Rattle.event_graph.specs.Network.{delay}
use Rattle.event_graph.specs.Varying.{Varies}
use Rattle.latest_dates.proofs.ArcBounds.{work-same}
use Rattle.latest_dates.proofs.arc_bounds.added_to_all.Goals as goal

pub returns : goal.returns
returns c =
    let g = c.args.graph.now in
    λ n. c.time_added.ensures
    ∙ ap (λ k. delay g c.args.a + k)
    (work-same g c.args.a 1 n (λ varies. false≢true (sym c.if-varies.false ∙ c.varies.ensures.varies.1 (subst (λ (x : Arc). Varies g x.to) (sym c.arc.ensures.arc) varies))))
