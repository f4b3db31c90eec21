use Rattle.std.proofs.Common.{ap, ◌∙◌}
use Rattle.std.specs.Prelude.{Err}
use Rattle.std.proofs.lemmas.Result.{err_from_is_err_and}
use Rattle.outside_io.specs.declared.store.StoreError.{StoreError}
use Rattle.outside_io.proofs.HeldLemmas.{counts_noted, counts_none}
use Rattle.outside_io.proofs.mem_store.refuse.Goals as goal

pub returns-in_err-text-clause-counts : goal.returns-in_err-text-clause-counts
returns-in_err-text-clause-counts c =
    let p = err_from_is_err_and c.from_residual.result c.from_residual.ensures.1 in
    counts_none _ _ _ _ (p.1 ∙ ap (λ (e : StoreError). Err e) p.2) c.in_err-text.ensures.counts

pub returns-clause-counts : goal.returns-clause-counts
returns-clause-counts c =
    counts_noted _ c.prepare.new.faults _ _ _ c.in_ok-text.ensures.counts c.in_ok-text.ensures.name c.note.ensures.noted c.note.ensures.stays_or_rises c.note.ensures.rises_by_one
