use Rattle.std.proofs.lemmas.Result.{err_from_is_err_and}
use Rattle.event_graph.proofs.ArcNumbers.{graph_from_no_fault}
use Rattle.event_graph.proofs.graph.arc_lists.Goals as goal

pub returns-clause-listed : goal.returns-clause-listed
returns-clause-listed c = record {
  graph = graph_from_no_fault c.args.parts.now c.in_ok-check_ends.ensures c.in_ok-check_feed.ensures c.in_ok-check_inputs.ensures;
  limits = c.requires;
  into_are = c.in_ok-into.ensures;
  out_of_are = c.in_ok-out_of.ensures;
}

pub returns-in_err-check_ends : goal.returns-in_err-check_ends
returns-in_err-check_ends c =
    let p = err_from_is_err_and c.from_residual.result c.from_residual.ensures.1 in
    record { listed = rw p.1 tt; refused = rw (p.1, p.2) c.in_err-check_ends.ensures }

pub returns-in_err-check_feed : goal.returns-in_err-check_feed
returns-in_err-check_feed c =
    let p = err_from_is_err_and c.from_residual-in_err-check_feed.result c.from_residual-in_err-check_feed.ensures.1 in
    record { listed = rw p.1 tt; refused = rw (p.1, p.2) c.in_err-check_feed.ensures }

pub returns-in_err-check_inputs : goal.returns-in_err-check_inputs
returns-in_err-check_inputs c =
    let p = err_from_is_err_and c.from_residual-in_err-check_inputs.result c.from_residual-in_err-check_inputs.ensures.1 in
    record { listed = rw p.1 tt; refused = rw (p.1, p.2) c.in_err-check_inputs.ensures }

pub returns-in_err-into : goal.returns-in_err-into
returns-in_err-into c =
    let p = err_from_is_err_and c.from_residual-in_err-into.result c.from_residual-in_err-into.ensures.1 in
    record { listed = rw p.1 tt; refused = rw (p.1, p.2) tt }

pub returns-in_err-out_of : goal.returns-in_err-out_of
returns-in_err-out_of c =
    let p = err_from_is_err_and c.from_residual-in_err-out_of.result c.from_residual-in_err-out_of.ensures.1 in
    record { listed = rw p.1 tt; refused = rw (p.1, p.2) tt }
