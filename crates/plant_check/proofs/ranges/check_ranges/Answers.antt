use Rattle.std.proofs.Common.{refl}
use Rattle.plant_model.proofs.Passes.{stops_among}
use Rattle.plant_check.proofs.ranges.check_ranges.Goals as goal

pub returns-in_err-check_top : goal.returns-in_err-check_top
returns-in_err-check_top c =
    stops_among c.from_residual.result _ _ _ c.from_residual.ensures.1 refl c.in_err-check_top.ensures
