use Rattle.std.proofs.Common.{◌++◌, [], ◌∷◌, sym, ap, ◌∙◌, append_assoc, append-nil}
use Rattle.checkpoint.proofs.writer.gather_dates.Goals as goal

pub loop-date-init : goal.loop-date-init
loop-date-init c = ap (λ l. l ++ c.into_iter-date-iterator.result) c.clear.ensures.items

pub loop-date-preserved : goal.loop-date-preserved
loop-date-preserved c =
    let loop = c.loop-date in
    let rest = c.next.new.self in
    ap (λ l. l ++ rest) c.in_ok-push.ensures.items
    ∙ append_assoc loop.dates.items (c.in-Some.date ∷ []) rest
    ∙ ap (λ l. loop.dates.items ++ l) (sym c.in-Some.ensures.steps)
    ∙ loop.invariant

pub returns : goal.returns
returns c =
    let loop = c.loop-date in
    sym (append-nil loop.dates.items)
    ∙ ap (λ l. loop.dates.items ++ l) (sym c.in-None.ensures.steps.0)
    ∙ loop.invariant
    ∙ c.into_iter-date-iterator.ensures.into_iter_gives
