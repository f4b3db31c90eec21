use Rattle.std.proofs.lemmas.Result.{err_from_is_err_and}
use Rattle.line_summary.proofs.making.memory_for.Goals as goal

pub returns-in_err-percentiles : goal.returns-in_err-percentiles
returns-in_err-percentiles c =
    rw (err_from_is_err_and c.from_residual.result c.from_residual.ensures.1).1 (record { numbers = tt; percentiles = tt; uses = tt; out = tt })

pub returns-in_err-out : goal.returns-in_err-out
returns-in_err-out c =
    rw (err_from_is_err_and c.from_residual-in_err-out.result c.from_residual-in_err-out.ensures.1).1 (record { numbers = tt; percentiles = tt; uses = tt; out = tt })

pub machine_uses-requires : goal.machine_uses-requires
machine_uses-requires c = c.requires.sound

pub returns-in_err-uses : goal.returns-in_err-uses
returns-in_err-uses c =
    rw (err_from_is_err_and c.from_residual-in_err-uses.result c.from_residual-in_err-uses.ensures.1).1 (record { numbers = tt; percentiles = tt; uses = tt; out = tt })

pub of-requires : goal.of-requires
of-requires c = c.requires.sound

pub returns-in_err-numbers : goal.returns-in_err-numbers
returns-in_err-numbers c =
    rw (err_from_is_err_and c.from_residual-in_err-numbers.result c.from_residual-in_err-numbers.ensures.1).1 (record { numbers = tt; percentiles = tt; uses = tt; out = tt })

pub returns : goal.returns
returns c = record {
  numbers = c.in_ok-numbers.ensures;
  percentiles = c.in_ok-percentiles.ensures;
  uses = c.in_ok-uses.ensures;
  out = c.in_ok-out.ensures;
}
