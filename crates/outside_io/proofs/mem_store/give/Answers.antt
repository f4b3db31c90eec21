use Rattle.std.proofs.Common.{ap, ◌∙◌}
use Rattle.std.specs.Prelude.{Err}
use Rattle.std.proofs.lemmas.Result.{err_from_is_err_and}
use Rattle.outside_io.specs.declared.store.StoreError.{StoreError}
use Rattle.outside_io.proofs.HeldLemmas.{no_error, not_failed, not_too_long}
use Rattle.outside_io.proofs.mem_store.give.Goals as goal

pub returns : goal.returns
returns c = record {
  written = c.in_ok-set_file.ensures.written;
  others_stay = c.set_file.ensures.others_stay;
  no_memory = λ memory. absurd (no_error _ _ memory);
  never_failed = no_error _ _;
  never_too_long = no_error _ _;
}

pub returns-in_err-set_file : goal.returns-in_err-set_file
returns-in_err-set_file c =
    let p = err_from_is_err_and c.from_residual.result c.from_residual.ensures.1 in
    let no_memory = p.1 ∙ ap (λ (e : StoreError). Err e) p.2 in
    record {
      written = rw p.1 tt;
      others_stay = c.set_file.ensures.others_stay;
      no_memory = λ memory. c.in_err-set_file.ensures.no_memory;
      never_failed = not_failed _ no_memory;
      never_too_long = not_too_long _ no_memory;
    }
