use Rattle.std.proofs.Common.{ap, sym, ◌∙◌}
use Rattle.line_workers.specs.Line.{WorkLine}
use Rattle.line_workers.proofs.AfterSweeps.{workers_after}
use Rattle.line_runs.proofs.Sweeps.{workers_are_for, gathered_goes_on}
use Rattle.line_runs.proofs.scheduler.standing.sweep_and_gather.Goals as goal

pub sweep_apart-workers-requires-after_bounds : goal.sweep_apart-workers-requires-after_bounds
sweep_apart-workers-requires-after_bounds g c =
    let made_for = c.requires ∙ sym (ap (λ (l : WorkLine). l.live) c.workers.ensures.line) in
    λ κs within. workers_are_for c.args.live.now c.workers.result.items c.workers.ensures.workers made_for

pub gather-requires-clause-workers : goal.gather-requires-clause-workers
gather-requires-clause-workers g c =
    workers_after c.workers.result.items c.sweep_apart-workers.result.items c.workers.ensures.workers c.sweep_apart-workers.ensures

pub returns : goal.returns
returns g c =
    let e = c.gather.ensures in
    gathered_goes_on c.args.live.now c.args.line c.gather.result c.workers.result.items c.sweep_apart-workers.result.items c.workers.ensures.workers c.workers.ensures.line c.requires c.sweep_apart-workers.ensures e.line e.logs e.stands
