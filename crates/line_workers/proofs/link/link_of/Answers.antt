use Rattle.std.proofs.Common.{length, ap, arith}
use Rattle.event_graph.specs.Network.{arc_count}
use Rattle.line_worker.proofs.Places.{ins-few, outs-few}
use Rattle.line_workers.proofs.link.link_of.Goals as goal

pub index_in-requires : goal.index_in-requires
index_in-requires c =
    omega (arith, ap length c.outs.ensures.arcs, outs-few c.graph-graph.result.now c.arc-arc.result.from, ap arc_count c.graph-graph.ensures.graph, c.graph-graph.ensures.ranked.limits.few_arcs)

pub index_in-requires-2 : goal.index_in-requires-2
index_in-requires-2 c =
    omega (arith, ap length c.ins.ensures.arcs, ins-few c.graph-graph.result.now c.arc-arc.result.to, ap arc_count c.graph-graph.ensures.graph, c.graph-graph.ensures.ranked.limits.few_arcs)
