use Rattle.std.proofs.Common.{refl}
use Rattle.plant_model.specs.Refusals.{parts_refusals}
use Rattle.plant_model.proofs.Passes.{stops_among}
use Rattle.plant_check.proofs.classes.check_parts.Goals as goal

pub returns-in_err-check_reserved : goal.returns-in_err-check_reserved
unfolding parts_refusals
returns-in_err-check_reserved c =
    stops_among c.from_residual.result _ _ _ c.from_residual.ensures.1 refl
    c.in_err-check_reserved.ensures

pub returns-in_err-check_repeated : goal.returns-in_err-check_repeated
unfolding parts_refusals
returns-in_err-check_repeated c =
    rw c.in_ok-check_reserved.ensures
    (stops_among c.from_residual-in_err-check_repeated.result _ _ _ c.from_residual-in_err-check_repeated.ensures.1 refl
    c.in_err-check_repeated.ensures)

pub returns-in_err-check_ranges : goal.returns-in_err-check_ranges
unfolding parts_refusals
returns-in_err-check_ranges c =
    rw (c.in_ok-check_reserved.ensures, c.in_ok-check_repeated.ensures)
    (stops_among c.from_residual-in_err-check_ranges.result _ _ _ c.from_residual-in_err-check_ranges.ensures.1 refl
    c.in_err-check_ranges.ensures)
