use Rattle.std.proofs.Common.{ℕ, ◌<◌, length, get_or, ap, ◌∙◌, subst, arith}
use Rattle.line_worker.specs.contracts.worker.Worker.{the_view}
use Rattle.line_worker.specs.Worker.{LineWorker}
use Rattle.line_worker.specs.Work.{SteppedAt}
use Rattle.line_worker.proofs.TeamSteps.{dates-stepped, turn_of}
use Rattle.line_worker.proofs.worker.Worker.turn.Goals as goal

pub index-i-requires : goal.index-i-requires
index-i-requires c = omega (arith, c.requires.nth, c.self.inside.order.ok.0, ap (λ (w : LineWorker). length w.order) c.self.view_is)

pub step-requires-clause-made_for : goal.step-requires-clause-made_for
step-requires-clause-made_for c = c.requires.made_for

pub step-requires-clause-station : goal.step-requires-clause-station
step-requires-clause-station c =
    let low : c.args.nth < length c.self.inside.order.items = omega (arith, c.requires.nth, ap (λ (w : LineWorker). length w.order) c.self.view_is) in
    let next = turn_of (the_view c.self.inside) c.args.nth c.index-i.result.now c.self.invariant low c.index-i.ensures in
    subst (λ (w : LineWorker). c.index-i.result.now < length w.team.stations) c.self.view_is next.1

pub step-requires-clause-turns : goal.step-requires-clause-turns
step-requires-clause-turns c =
    let low : c.args.nth < length c.self.inside.order.items = omega (arith, c.requires.nth, ap (λ (w : LineWorker). length w.order) c.self.view_is) in
    let next = turn_of (the_view c.self.inside) c.args.nth c.index-i.result.now c.self.invariant low c.index-i.ensures in
    c.requires.turns c.index-i.result.now (subst (λ (w : LineWorker). c.index-i.result.now < length w.team.stations) c.self.view_is next.1)

pub returns-clause-worker : goal.returns-clause-worker
returns-clause-worker c = c.step.ensures.worker

pub returns-clause-frame : goal.returns-clause-frame
returns-clause-frame c = c.step.ensures.frame

pub returns-clause-stepped : goal.returns-clause-stepped
returns-clause-stepped c =
    let low : c.args.nth < length c.self.inside.order.items = omega (arith, c.requires.nth, ap (λ (w : LineWorker). length w.order) c.self.view_is) in
    let next = turn_of (the_view c.self.inside) c.args.nth c.index-i.result.now c.self.invariant low c.index-i.ensures in
    subst (λ (i : ℕ). SteppedAt i c.args.self.now.team c.step.new.self.team) (next.0 ∙ ap (λ (w : LineWorker). get_or w.order c.args.nth 0) c.self.view_is) c.step.ensures.stepped

pub returns-clause-fired : goal.returns-clause-fired
returns-clause-fired c =
    let low : c.args.nth < length c.self.inside.order.items = omega (arith, c.requires.nth, ap (λ (w : LineWorker). length w.order) c.self.view_is) in
    let next = turn_of (the_view c.self.inside) c.args.nth c.index-i.result.now c.self.invariant low c.index-i.ensures in
    let there = subst (λ (w : LineWorker). c.index-i.result.now < length w.team.stations) c.self.view_is next.1 in
    dates-stepped c.index-i.result.now _ c.args.self.now.team c.step.new.self.team there c.step.ensures.stepped c.step.ensures.fired
