use Rattle.std.proofs.Common.{refl}
use Rattle.plant_model.proofs.Passes.{stops_among}
use Rattle.plant_check.proofs.PassedElements.{goes_on}
use Rattle.plant_check.proofs.ranges.check_loop.Goals as goal

pub returns-in_err-check_number : goal.returns-in_err-check_number
returns-in_err-check_number c =
    stops_among c.from_residual.result _ _ _ c.from_residual.ensures.1 refl c.in_err-check_number.ensures

pub returns : goal.returns
returns c = goes_on _ _ _ c.in_ok-check_number.ensures c.check_cards.ensures
