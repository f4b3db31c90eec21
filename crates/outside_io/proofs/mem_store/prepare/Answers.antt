use Rattle.std.proofs.Common.{refl, arith}
use Rattle.std.proofs.lemmas.Result.{err_from_is_err_and}
use Rattle.outside_io.proofs.mem_store.prepare.Goals as goal

pub returns : goal.returns
returns c = record {
  name = c.in_ok-text.ensures.ok;
  room = omega (arith, c.in_ok-reserve.ensures.ok);
  counts = λ name. rw c.reserve.ensures.items refl;
}

pub returns-in_err-text : goal.returns-in_err-text
returns-in_err-text c =
    let p = err_from_is_err_and c.from_residual.result c.from_residual.ensures.1 in
    record { name = rw p.1 tt; room = rw p.1 tt; counts = λ name. refl }

pub returns-in_err-reserve : goal.returns-in_err-reserve
returns-in_err-reserve c =
    let p = err_from_is_err_and c.from_residual-in_err-reserve.result c.from_residual-in_err-reserve.ensures.1 in
    record { name = rw p.1 tt; room = rw p.1 tt; counts = λ name. rw c.reserve.ensures.items refl }
