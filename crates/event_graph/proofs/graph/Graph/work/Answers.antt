use Rattle.std.proofs.Common.{sym, ap, ◌∙◌, arith}
use Rattle.std.proofs.lemmas.Bool.{cond-true, cond-false}
use Rattle.line_base.specs.declared.event.Arc.{Arc}
use Rattle.event_graph.specs.Network.{arc, time}
use Rattle.event_graph.specs.Term.{work}
use Rattle.event_graph.proofs.Sizes.{time-small}
use Rattle.event_graph.proofs.graph.Graph.work.Goals as goal

pub returns-then-arc-clause-work : goal.returns-then-arc-clause-work
unfolding work
returns-then-arc-clause-work c =
    let g = c.args.self.now in
    let n = c.args.n in
    let worked = sym (ap (λ (x : Arc). x.worked) c.arc-arc.ensures.arc) ∙ c.if-arc.true in
    c.time.ensures.time ∙ ap (λ (x : Arc). time g x.to n) c.arc-arc.ensures.arc ∙ sym (cond-true (arc g c.args.a).worked (time g (arc g c.args.a).to n) 0 worked)

pub returns-then-arc-clause-short : goal.returns-then-arc-clause-short
returns-then-arc-clause-short c =
    omega (arith, c.time.ensures.time, time-small c.args.self.now c.arc-arc.result.to c.args.n c.time.ensures.limits)

pub returns-else-arc-clause-work : goal.returns-else-arc-clause-work
unfolding work
returns-else-arc-clause-work c =
    let g = c.args.self.now in
    let plain = sym (ap (λ (x : Arc). x.worked) c.arc-arc.ensures.arc) ∙ c.if-arc.false in
    sym (cond-false (arc g c.args.a).worked (time g (arc g c.args.a).to c.args.n) 0 plain)
