use Rattle.std.proofs.Common.{sym, refl, arith}
use Rattle.std.proofs.lemmas.List.{take_all}
use Rattle.std.proofs.lemmas.List.Folds.{list_all_at, list_all_more}
use Rattle.toml.specs.View.{view}
use Rattle.plant_keys.specs.Code.{is_element}
use Rattle.plant_keys.proofs.values.are_elements.Goals as goal

pub loop-value-init : goal.loop-value-init
loop-value-init c = refl

pub returns-then-not-is_element : goal.returns-then-not-is_element
returns-then-not-is_element c =
    sym
    (list_all_at (λ v. is_element c.args.element (view v)) c.args.values.now c.loop-value.value-index c.value-item.result (omega arith)
    (rw (← c.value-item.is) (sym c.if-not-is_element.ensures)))

pub loop-value-preserved : goal.loop-value-preserved
loop-value-preserved c =
    rw (list_all_more (λ v. is_element c.args.element (view v)) c.args.values.now c.loop-value.value-index c.value-item.result (omega arith), c.loop-value.invariant, ← c.value-item.is)
    (sym c.if-not-is_element.ensures)

pub returns : goal.returns
returns c = sym (rw (take_all c.loop-value.value-index c.args.values.now (omega arith)) at c.loop-value.invariant)
