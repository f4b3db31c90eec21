use Rattle.std.proofs.Common.{◌∙◌, sym, subst}
use Rattle.line_graph.proofs.Built.{graph-parts}
use Rattle.line_graph.specs.Labels.{AreLabels}
use Rattle.line_graph.proofs.graph.parts_of.Goals as goal

pub returns-clause-graph : goal.returns-clause-graph
returns-clause-graph c =
    graph-parts c.args.plant.now _
    (c.from_vec-4.ensures ∙ c.in_ok-station_labels.ensures.all)
    (c.from_vec-3.ensures ∙ c.in_ok-station_times.ensures)
    c.in_ok-copy.ensures
    (c.from_vec.ensures ∙ c.in_ok-arcs.ensures.arcs)
    (c.from_vec-2.ensures ∙ c.in_ok-arcs.ensures.delays)

pub returns-clause-labels : goal.returns-clause-labels
returns-clause-labels c = subst AreLabels (sym c.from_vec-4.ensures) c.in_ok-station_labels.ensures.rule
