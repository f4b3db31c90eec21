use Rattle.std.proofs.Common.{◌<◌, length, set, sym, ◌∙◌, subst, arith, ⊎_elim}
use Rattle.std.proofs.lemmas.Bool.{cases_eq}
use Rattle.std.proofs.lemmas.List.{get_or_default, get_or-set_same, get_or-set_other}
use Rattle.line_worker.specs.Worker.{LineWorker}
use Rattle.line_worker.specs.Workers.{no_worker, worker_at, HasMadeRound}
use Rattle.line_workers.proofs.work.go_on_all.Goals as goal

pub loop-worker-preserved : goal.loop-worker-preserved
loop-worker-preserved g c =
    let old = c.args.workers.now in
    let now = c.loop-worker.workers in
    let w = c.loop-worker.worker-index in
    let new = c.go_on.new.self in
    let low : w < length now = omega (arith, c.loop-worker-test.true, c.loop-worker.auto.workers) in
    let at = get_or_default now w c.worker-item.result no_worker low ∙ c.loop-worker.invariant.stay w (omega arith) in
    let went : HasMadeRound (worker_at old w) (worker_at (set now w new) w) =
    subst (HasMadeRound (worker_at old w)) (sym (get_or-set_same now w new no_worker low)) (
    subst (λ (worker : LineWorker). HasMadeRound worker new) at c.go_on.ensures) in
    record {
      went = λ v before.
          ⊎_elim
          (λ same. subst (λ u. HasMadeRound (worker_at old u) (worker_at (set now w new) u)) (sym same) went)
          (λ apart.
          subst (HasMadeRound (worker_at old v)) (sym (get_or-set_other now w v new no_worker apart)) (
          c.loop-worker.invariant.went v (omega (arith, before, apart))))
          (cases_eq v w);
      stay = λ v later.
          get_or-set_other now w v new no_worker (omega (arith, later)) ∙ c.loop-worker.invariant.stay v (omega (arith, later));
    }

pub returns : goal.returns
returns g c w low = c.loop-worker.invariant.went w (omega (arith, low, c.loop-worker-test.false, c.loop-worker.auto.worker-index-end, c.loop-worker.auto.workers))
