use Rattle.std.proofs.Common.{◌^◌, IsTrue, sym, ap, ◌∙◌, arith, rules}
use Rattle.line_worker.specs.Worker.{LineWorker}
use Rattle.line_runs.proofs.Sweeps.{as_it_is, sweep_more, one_turn_more, most_below}
use Rattle.line_runs.proofs.scheduler.sweeping.sweep_on.Goals as goal

pub loop-worker-init : goal.loop-worker-init
loop-worker-init g c = record {
  after = as_it_is c.args.worker.now c.requires.worker;
  counted = record { most = c.turns-turns.ensures.most; one = c.turns-turns.ensures.one };
}

pub may_sweep-requires : goal.may_sweep-requires
may_sweep-requires g c = record { turns = c.loop-worker.invariant.counted }

pub overflow_add-turns : goal.overflow_add-turns
overflow_add-turns g c =
    let yes : IsTrue c.may_sweep.result = search rules in
    let may = c.may_sweep.ensures.may.0 yes in
    omega (arith, most_below c.loop-worker.worker.team c.loop-worker.turns (2 ^ 39) (omega arith) c.loop-worker.invariant.counted may.turns)

pub loop-worker-preserved : goal.loop-worker-preserved
loop-worker-preserved g c =
    let e = c.sweep.ensures in
    let yes : IsTrue c.may_sweep.result = search rules in
    let may = c.may_sweep.ensures.may.0 yes in
    record {
      after = sweep_more c.args.worker.now c.loop-worker.worker c.sweep.new.self c.loop-worker.invariant.after e.worker e.frame e.swept;
      counted = one_turn_more c.loop-worker.worker c.sweep.new.self.team c.loop-worker.turns may.undone c.loop-worker.invariant.counted e.swept;
    }

pub loop-worker-smaller : goal.loop-worker-smaller
loop-worker-smaller g c =
    let yes : IsTrue c.may_sweep.result = search rules in
    let may = c.may_sweep.ensures.may.0 yes in
    omega (arith, most_below c.loop-worker.worker.team c.loop-worker.turns (2 ^ 39) (omega arith) c.loop-worker.invariant.counted may.turns)

pub sweep-requires-clause-made_for : goal.sweep-requires-clause-made_for
sweep-requires-clause-made_for g c =
    let same = ap (λ (w : LineWorker). w.live) c.loop-worker.invariant.after.same.frame in
    λ κs within. c.requires.live_is ∙ sym same

pub sweep-requires-clause-turns : goal.sweep-requires-clause-turns
sweep-requires-clause-turns g c =
    let yes : IsTrue c.may_sweep.result = search rules in
    let may = c.may_sweep.ensures.may.0 yes in
    λ κs within. may.turns

pub returns-after-loop-worker : goal.returns-after-loop-worker
returns-after-loop-worker g c = c.loop-worker.invariant.after

pub returns-else-may_sweep : goal.returns-else-may_sweep
returns-else-may_sweep g c = c.loop-worker.invariant.after
