use Rattle.std.proofs.Common.{◌^◌, ◌<◌, arith, rules}
use Rattle.std.proofs.lemmas.Bool.{ltb-true, lt-ltb}
use Rattle.line_worker.specs.Work.{AllDone}
use Rattle.line_runs.proofs.Sweeps.{turns_below, most_below}
use Rattle.line_runs.proofs.scheduler.sweeping.may_sweep.Goals as goal

pub returns-then-not-is_done-clause-may : goal.returns-then-not-is_done-clause-may
returns-then-not-is_done-clause-may c =
    let worker = c.args.worker.now in
    let most : 0 < 2 ^ 39 = omega arith in
    let undone : ¬ AllDone worker.target worker.team = search rules in (
      λ yes. record {
        undone = undone;
        turns = turns_below worker.team c.args.turns (2 ^ 39) c.requires.turns (ltb-true c.args.turns (2 ^ 39) yes);
      },
      λ may. lt-ltb c.args.turns (2 ^ 39) (most_below worker.team c.args.turns (2 ^ 39) most c.requires.turns may.turns),
    )

pub returns-else-not-is_done-clause-may : goal.returns-else-not-is_done-clause-may
returns-else-not-is_done-clause-may c =
    let worker = c.args.worker.now in
    let done : AllDone worker.target worker.team = search rules in (
      λ yes. absurd (cc),
      λ may. absurd (may.undone done),
    )

pub returns-then-not-is_done-clause-worker : goal.returns-then-not-is_done-clause-worker
returns-then-not-is_done-clause-worker c = c.is_done.ensures.worker

pub returns-else-not-is_done-clause-worker : goal.returns-else-not-is_done-clause-worker
returns-else-not-is_done-clause-worker c = c.is_done.ensures.worker
