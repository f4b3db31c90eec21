use Rattle.std.proofs.Common.{◌≡◌, subst, arith}
use Rattle.line_worker.specs.Workers.{IsAtWork}
use Rattle.line_worker.proofs.BurstSweeps.{at_work_begins, at_work_more, may_go_on, at_work_in_full}
use Rattle.line_worker.specs.Sweeps.{most_sweeps}
use Rattle.line_worker.proofs.worker.Worker.work.Goals as goal

pub loop-sweep-init : goal.loop-sweep-init
loop-sweep-init g c = at_work_begins c.args.self.now

pub go_on-requires-clause-ready : goal.go_on-requires-clause-ready
go_on-requires-clause-ready g c κs h =
    let now = c.loop-sweep.self in
    may_go_on c.args.live.now c.args.self.now now c.loop-sweep._sweep (omega (arith, c.loop-sweep-test.true)) c.requires.ready c.loop-sweep.invariant

pub loop-sweep-preserved : goal.loop-sweep-preserved
loop-sweep-preserved g c =
    at_work_more c.args.self.now c.loop-sweep.self c.go_on.new.self c.loop-sweep._sweep (omega (arith, c.loop-sweep-test.true)) c.go_on.ensures c.loop-sweep.invariant

pub returns : goal.returns
returns g c =
    let full : c.loop-sweep._sweep ≡ most_sweeps = omega (arith, c.loop-sweep-test.false, c.loop-sweep.auto._sweep-end) in
    at_work_in_full c.args.self.now c.loop-sweep.self (subst (IsAtWork c.args.self.now c.loop-sweep.self) full c.loop-sweep.invariant)
