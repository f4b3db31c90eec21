use Rattle.std.proofs.Common.{[], ◌∷◌, refl, sym}
use Rattle.plant_keys.specs.Faults.{plain}
use Rattle.plant_keys.proofs.FaultLists.{plain-append}
use Rattle.plant_keys.proofs.FoundFaults.{finds_none, finds_same, finds_both}
use Rattle.plant_lint.proofs.plant.add_plain.Goals as goal

pub loop-error-init : goal.loop-error-init
loop-error-init c = finds_none _

pub loop-error-preserved : goal.loop-error-preserved
loop-error-preserved c =
    let so_far = c.loop-error.yielded in
    let here = c.in-Some.error ∷ [] in
    finds_same _ _ _ _
    (finds_both _ _ _ (plain so_far) (plain here) c.loop-error.invariant (c.add.ensures _ refl))
    (sym (plain-append so_far here))
