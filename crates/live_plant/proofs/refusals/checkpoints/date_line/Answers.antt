use Rattle.std.proofs.Common.{◌≡◌, ◌++◌, subst, ℕ, List, codes, IfOk}
use Rattle.live_plant.specs.declared.refusals.refusal.Refusal.TheVariants.{NotReached}
use Rattle.std.proofs.lemmas.Result.{err_from_is_err_and}
use Rattle.live_plant.proofs.refusals.checkpoints.date_line.Goals as goal

pub returns-in_err-date : goal.returns-in_err-date
returns-in_err-date c = rw (err_from_is_err_and c.from_residual.result c.from_residual.ensures.1).1 tt

pub returns : goal.returns
returns c =
    let Says : List ℕ → Type 0 = λ what. IfOk c.station_line.result (λ refusal. refusal ≡ NotReached (codes "checkpoint: " ++ (c.args.label.now ++ what))) in
    subst Says c.in_ok-date.ensures.ok c.station_line.ensures
