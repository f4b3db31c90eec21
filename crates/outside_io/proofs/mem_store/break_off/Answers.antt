use Rattle.std.proofs.Common.{refl, ap, ◌∙◌}
use Rattle.std.specs.Prelude.{Err}
use Rattle.std.proofs.lemmas.Result.{err_from_is_err_and}
use Rattle.outside_io.specs.declared.store.StoreError.{StoreError}
use Rattle.outside_io.proofs.HeldLemmas.{counts_noted, counts_none, not_failed, found_memory}
use Rattle.outside_io.proofs.mem_store.break_off.Goals as goal

pub returns-in_err-text-clause-counts : goal.returns-in_err-text-clause-counts
returns-in_err-text-clause-counts c =
    let p = err_from_is_err_and c.from_residual.result c.from_residual.ensures.1 in
    counts_none _ _ _ _ (p.1 ∙ ap (λ (e : StoreError). Err e) p.2) c.in_err-text.ensures.counts

pub returns-in_err-leave-clause-counts : goal.returns-in_err-leave-clause-counts
returns-in_err-leave-clause-counts c =
    let p = err_from_is_err_and c.from_residual-in_err-leave.result c.from_residual-in_err-leave.ensures.1 in
    counts_none _ _ _ _ (p.1 ∙ ap (λ (e : StoreError). Err e) p.2) c.in_ok-text.ensures.counts

pub returns-clause-counts : goal.returns-clause-counts
returns-clause-counts c =
    counts_noted _ c.prepare.new.faults _ _ _ c.in_ok-text.ensures.counts c.in_ok-text.ensures.name c.note.ensures.noted c.note.ensures.stays_or_rises c.note.ensures.rises_by_one

pub returns-in_err-text-clause-kept : goal.returns-in_err-text-clause-kept
returns-in_err-text-clause-kept c = λ failed.
    let p = err_from_is_err_and c.from_residual.result c.from_residual.ensures.1 in
    absurd (not_failed _ (p.1 ∙ ap (λ (e : StoreError). Err e) p.2) failed)

pub returns-in_err-text-clause-others_stay : goal.returns-in_err-text-clause-others_stay
returns-in_err-text-clause-others_stay c = λ known q apart. refl

pub returns-in_err-text-clause-no_memory : goal.returns-in_err-text-clause-no_memory
returns-in_err-text-clause-no_memory c = λ memory known q. refl

pub returns-in_err-leave-clause-kept : goal.returns-in_err-leave-clause-kept
returns-in_err-leave-clause-kept c = λ failed.
    let p = err_from_is_err_and c.from_residual-in_err-leave.result c.from_residual-in_err-leave.ensures.1 in
    absurd (not_failed _ (p.1 ∙ ap (λ (e : StoreError). Err e) p.2) failed)

pub returns-in_err-leave-clause-others_stay : goal.returns-in_err-leave-clause-others_stay
returns-in_err-leave-clause-others_stay c = c.leave.ensures.others_stay

pub returns-in_err-leave-clause-no_memory : goal.returns-in_err-leave-clause-no_memory
returns-in_err-leave-clause-no_memory c = λ memory. c.in_err-leave.ensures.no_memory

pub returns-clause-kept : goal.returns-clause-kept
returns-clause-kept c = λ failed. c.in_ok-leave.ensures.kept

pub returns-clause-others_stay : goal.returns-clause-others_stay
returns-clause-others_stay c = c.leave.ensures.others_stay

pub returns-clause-no_memory : goal.returns-clause-no_memory
returns-clause-no_memory c = λ memory. absurd (found_memory memory)
