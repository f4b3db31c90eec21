use Rattle.std.proofs.Common.{rules, arith, List, [], ◌∷◌, ◌++◌, sym, subst, ◌∙◌}
use denote.Param.{param}
use denote.Exit.{yes}
use denote.Param.Send.{sendable, param_send, arg_send}
use Rattle.line_worker.specs.Worker.{LineWorker}
use Rattle.line_workers.specs.Gather.{IsWorkerAfter, AreWorkersAfter}
use Rattle.line_worker.proofs.WorkerSend.{worker_send}
use Rattle.line_runs.specs.Sweeping.{IsWorkerFor}
use Rattle.line_runs.proofs.SweepSend.{sweeps_send}
use Rattle.line_runs.proofs.Sweeps.{as_they_are, last_is_for, rest_are_for, one_fewer, one_more}
use Rattle.line_runs.proofs.scheduler.apart.+sweep_all.Goals as goal

pub spawn_with-requires-send-F : goal.spawn_with-requires-send-F
spawn_with-requires-send-F g t c κs within = param_send 2 _ (arg_send _ yes _ (sweeps_send _ (param 2 g.row.G) (search sendable) _ _ _ _ _ _))

pub spawn_with-requires-send-T : goal.spawn_with-requires-send-T
spawn_with-requires-send-T g t c κs within = param_send 3 _ (arg_send _ yes _ worker_send)

pub sweeps-requires-after_bounds : goal.sweeps-requires-after_bounds
sweeps-requires-after_bounds g t c =
    let last : IsWorkerFor c.args.live.now c.in-Some.worker =
    last_is_for c.args.live.now c.args.workers.items c.pop.new.self.items c.in-Some.worker c.requires c.in-Some.ensures.items in
    rw c.in-Err.ensures.err (λ κs within. last)

pub returns-in-Ok-clause-after : goal.returns-in-Ok-clause-after
returns-in-Ok-clause-after g t c =
    let rest : List LineWorker = c.pop.new.self.items in
    let swept : List LineWorker = c.sweep_all-workers.result.items in
    let worker : LineWorker = c.in-Some.worker in
    let back : LineWorker = c.join.result in
    let kept : IsWorkerAfter worker back = search rules in
    let are = one_more rest swept worker back c.sweep_all-workers.ensures.after kept in
    subst (λ (l : List LineWorker). AreWorkersAfter l c.push_reserved-in-Ok.new.self.items) (sym {A = List LineWorker} c.in-Some.ensures.items) (
    subst (AreWorkersAfter (rest ++ worker ∷ [])) (sym {A = List LineWorker} c.push_reserved-in-Ok.ensures.items) are)

pub returns-in-Err-clause-after : goal.returns-in-Err-clause-after
returns-in-Err-clause-after g t c =
    let rest : List LineWorker = c.pop.new.self.items in
    let worker : LineWorker = c.in-Some.worker in
    let back : LineWorker = c.sweeps.result in
    let kept : IsWorkerAfter worker back = rw c.in-Err.ensures.err at c.sweeps.ensures in
    let are_for = rest_are_for c.args.live.now c.args.workers.items rest worker c.requires c.in-Some.ensures.items in
    let are = one_more rest rest worker back (as_they_are c.args.live.now rest are_for) kept in
    subst (λ (l : List LineWorker). AreWorkersAfter l c.push_reserved-in-Err.new.self.items) (sym {A = List LineWorker} c.in-Some.ensures.items) (
    subst (AreWorkersAfter (rest ++ worker ∷ [])) (sym {A = List LineWorker} c.push_reserved-in-Err.ensures.items) are)

pub spawn_with-requires-clause-keeps : goal.spawn_with-requires-clause-keeps
spawn_with-requires-clause-keeps g t c =
    λ κs within back after. subst (λ (was : LineWorker). IsWorkerAfter was back) (sym {A = LineWorker} c.of.ensures) after

pub spawn_with-requires-clause-runs : goal.spawn_with-requires-clause-runs
spawn_with-requires-clause-runs g t c =
    let last : IsWorkerFor c.args.live.now c.in-Some.worker =
    last_is_for c.args.live.now c.args.workers.items c.pop.new.self.items c.in-Some.worker c.requires c.in-Some.ensures.items in
    λ κs within. (last, search sendable)

pub returns-then-is_empty-clause-after : goal.returns-then-is_empty-clause-after
returns-then-is_empty-clause-after g t c =
    let rest : List LineWorker = c.pop.new.self.items in
    let worker : LineWorker = c.in-Some.worker in
    let back : LineWorker = c.worker_after.result in
    let are_for = rest_are_for c.args.live.now c.args.workers.items rest worker c.requires c.in-Some.ensures.items in
    let are = one_more rest rest worker back (as_they_are c.args.live.now rest are_for) c.worker_after.ensures in
    subst (λ (l : List LineWorker). AreWorkersAfter l c.push_reserved.new.self.items) (sym {A = List LineWorker} c.in-Some.ensures.items) (
    subst (AreWorkersAfter (rest ++ worker ∷ [])) (sym {A = List LineWorker} c.push_reserved.ensures.items) are)

pub returns-in-Ok-clause-room : goal.returns-in-Ok-clause-room
returns-in-Ok-clause-room g t c =
    c.push_reserved-in-Ok.ensures.capacity ∙ c.sweep_all-workers.ensures.room ∙ c.pop.ensures.capacity

pub returns-in-Err-clause-room : goal.returns-in-Err-clause-room
returns-in-Err-clause-room g t c = c.push_reserved-in-Err.ensures.capacity ∙ c.pop.ensures.capacity

pub returns-then-is_empty-clause-room : goal.returns-then-is_empty-clause-room
returns-then-is_empty-clause-room g t c = c.push_reserved.ensures.capacity ∙ c.pop.ensures.capacity

pub push_reserved-requires : goal.push_reserved-requires
push_reserved-requires g t c =
    let rest : List LineWorker = c.pop.new.self.items in
    let fewer = one_fewer c.args.workers.items rest c.in-Some.worker c.in-Some.ensures.items in
    omega (arith, fewer, c.pop.new.self.ok.0, c.args.workers.ok.0, c.pop.ensures.capacity)

pub push_reserved-requires-in-Ok : goal.push_reserved-requires-in-Ok
push_reserved-requires-in-Ok g t c =
    let rest : List LineWorker = c.pop.new.self.items in
    let fewer = one_fewer c.args.workers.items rest c.in-Some.worker c.in-Some.ensures.items in
    let swept = c.sweep_all-workers in
    omega (arith, fewer, swept.ensures.after.count, swept.result.ok.0, c.args.workers.ok.0, swept.ensures.room ∙ c.pop.ensures.capacity)

pub push_reserved-requires-in-Err : goal.push_reserved-requires-in-Err
push_reserved-requires-in-Err g t c =
    let rest : List LineWorker = c.pop.new.self.items in
    let fewer = one_fewer c.args.workers.items rest c.in-Some.worker c.in-Some.ensures.items in
    omega (arith, fewer, c.pop.new.self.ok.0, c.args.workers.ok.0, c.pop.ensures.capacity)
