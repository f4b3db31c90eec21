use Rattle.std.proofs.Common.{refl, arith}
use Rattle.std.proofs.lemmas.Map.Text.{text_keys}
use Rattle.std.proofs.lemmas.Result.{err_from_is_err_and}
use Rattle.outside_io.proofs.mem_store.set_file.Goals as goal

pub returns-clause-others_stay : goal.returns-clause-others_stay
returns-clause-others_stay c = λ q apart. grind (arith, text_keys)

pub returns-in_err-copy : goal.returns-in_err-copy
returns-in_err-copy c =
    let p = err_from_is_err_and c.from_residual.result c.from_residual.ensures.1 in
    record {
      written = rw p.1 tt;
      others_stay = λ known q apart. refl;
      no_memory = rw p.1 (λ known q. refl);
    }

pub returns-in_err-from_str : goal.returns-in_err-from_str
returns-in_err-from_str c =
    let p = err_from_is_err_and c.from_residual-in_err-from_str.result c.from_residual-in_err-from_str.ensures.1 in
    record {
      written = rw p.1 tt;
      others_stay = λ known q apart. refl;
      no_memory = rw p.1 (λ known q. refl);
    }
