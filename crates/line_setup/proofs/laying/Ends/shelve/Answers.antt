use Rattle.std.proofs.Common.{◌≡◌, length, ap, arith}
use Rattle.std.proofs.lemmas.Result.{err_from_is_err_and}
use Rattle.line_setup.specs.Making.{QueueEnds, firsts_at}
use Rattle.line_setup.proofs.LaidLists.{count-seen, map-with_one, map-with_tokens}
use Rattle.line_setup.proofs.LaidEnds.{ends-same}
use Rattle.line_setup.proofs.laying.Ends.shelve.Goals as goal
use Rattle.line_setup.proofs.laying.Ends.shelve.Goals.{After-len-number}

-- how many queues stand on the shelf
count_is : (c : After-len-number) → c.len-number.result ≡ length (firsts_at c.args.self.now c.args.worker_number)
count_is c =
    omega (arith, c.len-number.ensures, c.index.result.now.ok.0, count-seen c.self.inside.shelves.items c.args.worker_number c.index.result.now c.args.self.now.shelves (ap (λ (e : QueueEnds). e.shelves) c.self.view_is) c.requires.worker_number c.index.ensures)

pub overflow_cast-number : goal.overflow_cast-number
overflow_cast-number c = omega (arith, count_is c, c.requires.few)

pub returns-clause-number : goal.returns-clause-number
returns-clause-number c = count_is (goal.at.returns-clause-number c).After-len-number

pub returns-clause-shelved : goal.returns-clause-shelved
returns-clause-shelved c =
    ends-same
    _
    _
    _
    _
    _
    _
    _
    _
    _
    _
    (ap (λ (e : QueueEnds). e.outlets) c.self.view_is)
    (ap (λ (e : QueueEnds). e.inlets) c.self.view_is)
    (map-with_tokens c.self.inside.shelves.items c.args.worker_number c.index_mut.result.now c.push.new.self c.args.tokens c.args.self.now.shelves (ap (λ (e : QueueEnds). e.shelves) c.self.view_is) c.requires.worker_number c.index_mut.ensures.value c.in_ok-push.ensures.items)
    (map-with_one c.self.inside.arcs.items c.args.worker_number c.index_mut-2.result.now c.push-2.new.self c.args.a c.args.self.now.arcs (ap (λ (e : QueueEnds). e.arcs) c.self.view_is) c.requires.arcs c.index_mut-2.ensures.value c.in_ok-push-2.ensures.items)
    (ap (λ (e : QueueEnds). e.room) c.self.view_is)

pub returns-in_err-push : goal.returns-in_err-push
returns-in_err-push c = rw (err_from_is_err_and c.from_residual.result c.from_residual.ensures.1).1 (record { number = tt; shelved = tt })

pub returns-in_err-push-2 : goal.returns-in_err-push-2
returns-in_err-push-2 c = rw (err_from_is_err_and c.from_residual-in_err-push-2.result c.from_residual-in_err-push-2.ensures.1).1 (record { number = tt; shelved = tt })
