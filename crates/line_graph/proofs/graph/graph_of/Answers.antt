use Rattle.std.proofs.Common.{◌∙◌}
use Rattle.line_graph.proofs.WithinLimits.{IsWithinLimits-graph}
use Rattle.line_graph.proofs.Inputs.{IsGraph-graph}
use Rattle.line_graph.proofs.Built.{no_fault, few_arcs-graph}
use Rattle.line_graph.proofs.graph.graph_of.Goals as goal

pub build-requires : goal.build-requires
build-requires c = rw c.in_ok-parts.ensures.graph (IsWithinLimits-graph c.args.plant.now c.requires)

pub unreachable-requires : goal.unreachable-requires
unreachable-requires c =
    let refused = rw c.in_ok-parts.ensures.graph at c.in-Err.ensures.refused in
    c.in_default.not-NoMemory (no_fault _ c.in-Err.error (IsGraph-graph c.args.plant.now c.requires) refused)

pub returns-in-Ok-clause-graph : goal.returns-in-Ok-clause-graph
returns-in-Ok-clause-graph c = c.in-Ok.ensures.built ∙ c.in_ok-parts.ensures.graph

pub returns-in-Ok-clause-few_arcs : goal.returns-in-Ok-clause-few_arcs
returns-in-Ok-clause-few_arcs c =
    rw (c.in-Ok.ensures.built ∙ c.in_ok-parts.ensures.graph) (few_arcs-graph c.args.plant.now c.requires)
