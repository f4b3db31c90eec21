use Rattle.std.proofs.lemmas.Result.{err_from_is_err_and}
use Rattle.line_setup.proofs.LaidLists.{map-one_more_empty}
use Rattle.line_setup.proofs.laying.empty_lists.Goals as goal

pub loop-preserved : goal.loop-preserved
loop-preserved g c =
    map-one_more_empty c.loop.lists.items c.push.new.self.items c.new.result c.loop.counter c.loop.invariant c.new.ensures.items c.in_ok-push.ensures.items

pub returns-in_err-lists : goal.returns-in_err-lists
returns-in_err-lists g c = rw (err_from_is_err_and c.from_residual.result c.from_residual.ensures.1).1 tt

pub returns-in_err-push : goal.returns-in_err-push
returns-in_err-push g c = rw (err_from_is_err_and c.from_residual-in_err-push.result c.from_residual-in_err-push.ensures.1).1 tt
