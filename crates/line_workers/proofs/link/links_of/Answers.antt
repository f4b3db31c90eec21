use Rattle.std.proofs.Common.{true≢false, ◌≡◌, length, ap, ◌∙◌, sym, arith}
use Rattle.event_graph.specs.Network.{arc_count}
use Rattle.line_workers.specs.Link.{first_links}
use Rattle.line_workers.proofs.Linked.{links_none, links_skip, links_pushed}
use Rattle.line_workers.proofs.link.links_of.Goals as goal

pub loop-a-init : goal.loop-a-init
loop-a-init c = c.new-links.ensures.items ∙ sym (links_none c.args.live.now.graph c.args.worker_count)

pub loop-a-preserved-then-is_inside : goal.loop-a-preserved-then-is_inside
loop-a-preserved-then-is_inside c =
    c.loop-a.invariant
    ∙ sym (links_skip c.args.live.now.graph c.args.worker_count c.loop-a.a (c.is_inside.ensures.0 c.if-is_inside.true))

pub loop-a-preserved : goal.loop-a-preserved
loop-a-preserved c =
    links_pushed c.args.live.now.graph c.args.worker_count c.loop-a.a c.loop-a.links.items _ c.link_of.result c.in_ok-push.ensures.items c.link_of.ensures c.loop-a.invariant
    (λ inside. true≢false (sym (c.is_inside.ensures.1 inside) ∙ c.if-is_inside.false))

pub is_inside-requires-clause-few : goal.is_inside-requires-clause-few
is_inside-requires-clause-few c = c.requires.few

pub is_inside-requires-clause-arc : goal.is_inside-requires-clause-arc
is_inside-requires-clause-arc c =
    omega (arith, c.loop-a-test.true, ap length c.arcs.ensures.arcs, ap arc_count c.graph.ensures.graph)

pub link_of-requires-clause-arc : goal.link_of-requires-clause-arc
link_of-requires-clause-arc c =
    omega (arith, c.loop-a-test.true, ap length c.arcs.ensures.arcs, ap arc_count c.graph.ensures.graph)

pub returns : goal.returns
returns c =
    let g = c.args.live.now.graph in
    let all : c.loop-a.a ≡ arc_count g = omega (arith, c.loop-a-test.false, c.loop-a.auto.a-end, ap length c.arcs.ensures.arcs, ap arc_count c.graph.ensures.graph) in
    c.loop-a.invariant ∙ ap (first_links g c.args.worker_count) all
