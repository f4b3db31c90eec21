use Rattle.std.proofs.lemmas.Result.{err_from_is_err_and}
use Rattle.line_setup.proofs.LaidLists.{no-tokens}
use Rattle.line_setup.proofs.laying.Ends.none.Goals as goal

pub returns-clause-shelves : goal.returns-clause-shelves
returns-clause-shelves c = no-tokens c.in_ok-empty_lists-3.field-0.items c.args.worker_count c.in_ok-empty_lists-3.ensures

pub returns-in_err-empty_lists : goal.returns-in_err-empty_lists
returns-in_err-empty_lists c = rw (err_from_is_err_and c.from_residual.result c.from_residual.ensures.1).1 (record { outlets = tt; inlets = tt; shelves = tt; arcs = tt; room = tt })

pub returns-in_err-empty_lists-2 : goal.returns-in_err-empty_lists-2
returns-in_err-empty_lists-2 c = rw (err_from_is_err_and c.from_residual-in_err-empty_lists-2.result c.from_residual-in_err-empty_lists-2.ensures.1).1 (record { outlets = tt; inlets = tt; shelves = tt; arcs = tt; room = tt })

pub returns-in_err-empty_lists-3 : goal.returns-in_err-empty_lists-3
returns-in_err-empty_lists-3 c = rw (err_from_is_err_and c.from_residual-in_err-empty_lists-3.result c.from_residual-in_err-empty_lists-3.ensures.1).1 (record { outlets = tt; inlets = tt; shelves = tt; arcs = tt; room = tt })

pub returns-in_err-empty_lists-4 : goal.returns-in_err-empty_lists-4
returns-in_err-empty_lists-4 c = rw (err_from_is_err_and c.from_residual-in_err-empty_lists-4.result c.from_residual-in_err-empty_lists-4.ensures.1).1 (record { outlets = tt; inlets = tt; shelves = tt; arcs = tt; room = tt })
