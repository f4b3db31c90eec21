use Rattle.line_graph.proofs.rows.policy_arcs.Goals as goal

pub returns-in-Extended : goal.returns-in-Extended
returns-in-Extended c = rw c.in-Extended.is c.arcs-in-Extended.ensures
