use Rattle.std.proofs.Common.{sym, refl, arith}
use Rattle.std.specs.Prelude.{codes}
use Rattle.std.proofs.lemmas.List.{take_all}
use Rattle.std.proofs.lemmas.List.Folds.{list_any_at, list_any_more}
use Rattle.toml.specs.View.{view}
use Rattle.plant_keys.specs.Readers.{has}
use Rattle.plant_keys.proofs.keys.any_has_column.Goals as goal

pub loop-machine-init : goal.loop-machine-init
loop-machine-init c = refl

pub returns-then-has : goal.returns-then-has
returns-then-has c =
    sym
    (list_any_at (λ m. has (codes "column") (view m)) c.args.machines.now c.loop-machine.machine-index c.machine-item.result (omega arith)
    (rw (← c.machine-item.is) (sym c.if-has.ensures)))

pub loop-machine-preserved : goal.loop-machine-preserved
loop-machine-preserved c =
    rw (list_any_more (λ m. has (codes "column") (view m)) c.args.machines.now c.loop-machine.machine-index c.machine-item.result (omega arith), c.loop-machine.invariant, ← c.machine-item.is)
    (sym c.if-has.ensures)

pub returns : goal.returns
returns c = sym (rw (take_all c.loop-machine.machine-index c.args.machines.now (omega arith)) at c.loop-machine.invariant)
