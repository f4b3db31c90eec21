use Rattle.std.proofs.Common.{◌≤◌, List, length, ap, sym, subst, ◌∙◌, arith}
use Rattle.std.specs.List.{All}
use Rattle.std.proofs.lemmas.List.{with_items_is}
use Rattle.line_worker.specs.Worker.{LineWorker}
use Rattle.line_worker.specs.Workers.{AreWorkers, live_of, room_of}
use Rattle.line_workers.specs.Gather.{AreWorkersAfter, logs_in}
use Rattle.line_workers.specs.Line.{WorkLine, StandsIn}
use Rattle.line_workers.proofs.AfterSweeps.{workers_after}
use Rattle.line_runs.specs.Sweeping.{IsWorkerFor}
use Rattle.line_runs.proofs.Sweeps.{workers_are_for, live_after, gathered_goes_on}
use Rattle.line_runs.proofs.scheduler.long_burst.work_long.Goals as goal

pub sweep_at_once-requires-clause-some : goal.sweep_at_once-requires-clause-some
sweep_at_once-requires-clause-some g c =
    λ κs within. subst (λ (l : List LineWorker). 1 ≤ length l) (sym c.deref_mut.ensures.value) c.workers-workers.ensures.workers.some

pub sweep_at_once-requires-clause-made_for : goal.sweep_at_once-requires-clause-made_for
sweep_at_once-requires-clause-made_for g c =
    let old : List LineWorker = c.workers-workers.result.items in
    let made_for = c.requires ∙ sym (ap (λ (l : WorkLine). l.live) c.workers-workers.ensures.line) in
    λ κs within. subst (λ (l : List LineWorker). All (IsWorkerFor c.args.live.now) l) (sym c.deref_mut.ensures.value) (
    workers_are_for c.args.live.now old c.workers-workers.ensures.workers made_for)

pub gather-requires-clause-workers : goal.gather-requires-clause-workers
gather-requires-clause-workers g c =
    let old = c.workers-workers.result in
    let new : List LineWorker = c.sweep_at_once.new.workers in
    let same = with_items_is old new (omega (arith, c.sweep_at_once.auto.workers, c.deref_mut.ensures.len)) in
    let after : AreWorkersAfter old.items new =
    subst (λ (l : List LineWorker). AreWorkersAfter l new) c.deref_mut.ensures.value c.sweep_at_once.ensures in
    subst AreWorkers (sym same) (workers_after old.items new c.workers-workers.ensures.workers after)

pub gather-requires-clause-made_for : goal.gather-requires-clause-made_for
gather-requires-clause-made_for g c =
    let old = c.workers-workers.result in
    let new : List LineWorker = c.sweep_at_once.new.workers in
    let same = with_items_is old new (omega (arith, c.sweep_at_once.auto.workers, c.deref_mut.ensures.len)) in
    let after : AreWorkersAfter old.items new =
    subst (λ (l : List LineWorker). AreWorkersAfter l new) c.deref_mut.ensures.value c.sweep_at_once.ensures in
    let made_for = c.requires ∙ sym (ap (λ (l : WorkLine). l.live) c.workers-workers.ensures.line) in
    made_for ∙ sym (live_after old.items new c.workers-workers.ensures.workers after) ∙ ap live_of (sym same)

pub returns : goal.returns
returns g c =
    let old = c.workers-workers.result in
    let new : List LineWorker = c.sweep_at_once.new.workers in
    let same = with_items_is old new (omega (arith, c.sweep_at_once.auto.workers, c.deref_mut.ensures.len)) in
    let after : AreWorkersAfter old.items new =
    subst (λ (l : List LineWorker). AreWorkersAfter l new) c.deref_mut.ensures.value c.sweep_at_once.ensures in
    let line = c.gather.result in
    let e = c.gather.ensures in
    let stands = subst (λ (l : List LineWorker). StandsIn (room_of l) c.args.live.now line.state (length l) line) same e.stands in
    gathered_goes_on c.args.live.now c.args.line line old.items new c.workers-workers.ensures.workers c.workers-workers.ensures.line c.requires after e.line (e.logs ∙ ap logs_in same) stands
