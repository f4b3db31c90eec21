use Rattle.std.proofs.Common.{◌≡◌, ◌+◌, refl, ap, ◌∙◌, arith}
use Rattle.event_graph.specs.Network.{jobs, time}
use Rattle.what_if.proofs.Made.{values, made_none, made_room, made_more}
use Rattle.what_if.specs.Edited.{times_of}
use Rattle.what_if.proofs.copies.times_of.Goals as goal

pub loop-n-init : goal.loop-n-init
loop-n-init c =
    let made = c.in_ok-times.ensures in
    made_none (values (time c.args.graph.now c.args.t) 1) c.jobs-jobs.result _ refl made.items made.len made.capacity

pub time-requires-clause-job : goal.time-requires-clause-job
time-requires-clause-job c = omega (arith, c.loop-n-test.true, c.jobs-jobs.ensures.count)

pub push_reserved-requires : goal.push_reserved-requires
push_reserved-requires c =
    made_room (values (time c.args.graph.now c.args.t) 1) c.jobs-jobs.result _ _ c.loop-n.invariant c.loop-n-test.true

pub loop-n-preserved : goal.loop-n-preserved
loop-n-preserved c =
    let pushed = c.push_reserved.ensures in
    made_more (time c.args.graph.now c.args.t) 1 c.jobs-jobs.result c.loop-n.n (c.loop-n.n + 1) _ _ _ (omega arith) c.time.ensures.time c.loop-n.invariant pushed.items pushed.len pushed.capacity

pub returns : goal.returns
unfolding times_of
returns c =
    let all : c.loop-n.n ≡ jobs c.args.graph.now = omega (arith, c.loop-n-test.false, c.loop-n.auto.n-end, c.jobs-jobs.ensures.count) in
    c.from_vec.ensures ∙ c.loop-n.invariant.items ∙ ap (values (time c.args.graph.now c.args.t) 1) all
