use Rattle.std.proofs.Common.{ap}
use Rattle.std.proofs.lemmas.Result.{err_from_is_err_and}
use Rattle.line_setup.specs.Making.{QueueEnds}
use Rattle.line_setup.proofs.LaidLists.{map-with_one}
use Rattle.line_setup.proofs.LaidEnds.{ends-same}
use Rattle.line_setup.proofs.laying.Ends.lay.Goals as goal

pub returns : goal.returns
returns c =
    ends-same
    _
    _
    _
    _
    _
    _
    _
    _
    _
    _
    (map-with_one c.self.inside.outlets.items c.args.from c.index_mut.result.now c.push.new.self c.args.outlet c.args.self.now.outlets (ap (λ (e : QueueEnds). e.outlets) c.self.view_is) c.requires.from c.index_mut.ensures.value c.in_ok-push.ensures.items)
    (map-with_one c.self.inside.inlets.items c.args.to c.index_mut-2.result.now c.push-2.new.self c.args.inlet c.args.self.now.inlets (ap (λ (e : QueueEnds). e.inlets) c.self.view_is) c.requires.to c.index_mut-2.ensures.value c.in_ok-push-2.ensures.items)
    (ap (λ (e : QueueEnds). e.shelves) c.self.view_is)
    (ap (λ (e : QueueEnds). e.arcs) c.self.view_is)
    (ap (λ (e : QueueEnds). e.room) c.self.view_is)

pub returns-in_err-push : goal.returns-in_err-push
returns-in_err-push c = rw (err_from_is_err_and c.from_residual.result c.from_residual.ensures.1).1 tt

pub returns-in_err-push-2 : goal.returns-in_err-push-2
returns-in_err-push-2 c = rw (err_from_is_err_and c.from_residual-in_err-push-2.result c.from_residual-in_err-push-2.ensures.1).1 tt
