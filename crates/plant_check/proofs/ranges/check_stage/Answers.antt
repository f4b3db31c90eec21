use Rattle.std.proofs.Common.{refl}
use Rattle.plant_model.proofs.Passes.{stops_among}
use Rattle.plant_check.proofs.PassedElements.{goes_on}
use Rattle.plant_check.proofs.ranges.check_stage.Goals as goal

pub returns-in_err-check_number : goal.returns-in_err-check_number
returns-in_err-check_number c =
    stops_among c.from_residual.result _ _ _ c.from_residual.ensures.1 refl c.in_err-check_number.ensures

pub returns-in_err-check_cards : goal.returns-in_err-check_cards
returns-in_err-check_cards c =
    goes_on _ _ _ c.in_ok-check_number.ensures
    (stops_among c.from_residual-in_err-check_cards.result _ _ _ c.from_residual-in_err-check_cards.ensures.1 refl c.in_err-check_cards.ensures)

pub returns-in_err-check_filled : goal.returns-in_err-check_filled
returns-in_err-check_filled c =
    goes_on _ _ _ c.in_ok-check_number.ensures
    (goes_on _ _ _ c.in_ok-check_cards.ensures
    (stops_among c.from_residual-in_err-check_filled.result _ _ _ c.from_residual-in_err-check_filled.ensures.1 refl c.in_err-check_filled.ensures))

pub returns-in_err-check_cards-2 : goal.returns-in_err-check_cards-2
returns-in_err-check_cards-2 c =
    goes_on _ _ _ c.in_ok-check_number.ensures
    (goes_on _ _ _ c.in_ok-check_cards.ensures
    (goes_on _ _ _ c.in_ok-check_filled.ensures
    (stops_among c.from_residual-in_err-check_cards-2.result _ _ _ c.from_residual-in_err-check_cards-2.ensures.1 refl c.in_err-check_cards-2.ensures)))

pub returns-in_err-check_number-2 : goal.returns-in_err-check_number-2
returns-in_err-check_number-2 c =
    goes_on _ _ _ c.in_ok-check_number.ensures
    (goes_on _ _ _ c.in_ok-check_cards.ensures
    (goes_on _ _ _ c.in_ok-check_filled.ensures
    (goes_on _ _ _ c.in_ok-check_cards-2.ensures
    (stops_among c.from_residual-in_err-check_number-2.result _ _ _ c.from_residual-in_err-check_number-2.ensures.1 refl c.in_err-check_number-2.ensures))))

pub returns : goal.returns
returns c =
    goes_on _ _ _ c.in_ok-check_number.ensures
    (goes_on _ _ _ c.in_ok-check_cards.ensures
    (goes_on _ _ _ c.in_ok-check_filled.ensures
    (goes_on _ _ _ c.in_ok-check_cards-2.ensures
    (goes_on _ _ _ c.in_ok-check_number-2.ensures
    (rw c.as_slice.ensures at c.check_machines.ensures)))))
