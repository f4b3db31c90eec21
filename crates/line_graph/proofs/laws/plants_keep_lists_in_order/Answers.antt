use Rattle.line_graph.proofs.OwnTokens.{graph_keeps_order}
use Rattle.line_graph.proofs.laws.plants_keep_lists_in_order.Goals as goal

pub returns : goal.returns
returns c = graph_keeps_order
