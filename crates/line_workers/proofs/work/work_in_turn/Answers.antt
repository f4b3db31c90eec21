use Rattle.std.proofs.Common.{◌≡◌, ◌<◌, length, sym, subst, arith}
use Rattle.std.proofs.lemmas.List.{get_or_default}
use Rattle.line_worker.specs.Workers.{no_worker, worker_at, IsAtWork, MayGoOn}
use Rattle.line_worker.proofs.BurstSweeps.{at_work_begins, at_work_more, may_go_on, at_work_in_full}
use Rattle.line_worker.specs.Sweeps.{most_sweeps}
use Rattle.line_workers.proofs.work.work_in_turn.Goals as goal

pub loop-sweep-init : goal.loop-sweep-init
loop-sweep-init g c w low = at_work_begins (worker_at c.args.workers.now w)

pub go_on_all-requires-after_bounds : goal.go_on_all-requires-after_bounds
go_on_all-requires-after_bounds g c κs h k d low =
    let old = c.args.workers.now in
    let now = c.loop-sweep.workers in
    let low' : k < length old = omega (arith, low, c.loop-sweep.auto.workers) in
    subst (MayGoOn c.args.live.now) (sym (get_or_default now k d no_worker low)) (
    may_go_on c.args.live.now (worker_at old k) (worker_at now k) c.loop-sweep._sweep (omega (arith, c.loop-sweep-test.true)) (c.requires k no_worker low') (c.loop-sweep.invariant k low'))

pub loop-sweep-preserved : goal.loop-sweep-preserved
loop-sweep-preserved g c w low =
    at_work_more (worker_at c.args.workers.now w) (worker_at c.loop-sweep.workers w) (worker_at c.go_on_all.new.workers w) c.loop-sweep._sweep (omega (arith, c.loop-sweep-test.true)) (c.go_on_all.ensures w (omega (arith, low, c.loop-sweep.auto.workers))) (c.loop-sweep.invariant w low)

pub returns : goal.returns
returns g c w low =
    let old = worker_at c.args.workers.now w in
    let new = worker_at c.loop-sweep.workers w in
    let full : c.loop-sweep._sweep ≡ most_sweeps = omega (arith, c.loop-sweep-test.false, c.loop-sweep.auto._sweep-end) in
    at_work_in_full old new (subst (IsAtWork old new) full (c.loop-sweep.invariant w low))
