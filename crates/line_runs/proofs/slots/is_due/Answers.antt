use Rattle.std.proofs.Common.{◌-◌, arith, rules}
use Rattle.std.proofs.lemmas.Bool.{leb-true, le-leb}
use Rattle.line_runs.specs.Bursts.{IsDone}
use Rattle.line_runs.proofs.Firings.{undone_is_below, done_is_all}
use Rattle.line_runs.proofs.slots.is_due.Goals as goal

pub returns-then-not-finished-clause-due : goal.returns-then-not-finished-clause-due
returns-then-not-finished-clause-due c =
    let undone : ¬ IsDone c.args.line.now = search rules in
    let left = undone_is_below c.args.line.now c.finished.ensures.line undone in
    let since = c.fired.result - c.args.saved in (
      λ yes. record {
        since = omega (arith, leb-true c.args.every since yes, c.fired.ensures.fired, c.requires);
        not_all = left;
      },
      λ due. le-leb c.args.every since (omega (arith, due.since, c.fired.ensures.fired)),
    )

pub returns-else-not-finished-clause-due : goal.returns-else-not-finished-clause-due
returns-else-not-finished-clause-due c =
    let done : IsDone c.args.line.now = search rules in
    let all = done_is_all c.args.line.now c.finished.ensures.line done in (
      λ yes. absurd (cc),
      λ due. absurd (omega (arith, due.not_all, all)),
    )
