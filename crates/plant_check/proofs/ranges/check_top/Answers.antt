use Rattle.std.proofs.Common.{refl}
use Rattle.plant_model.proofs.Passes.{stops_among}
use Rattle.plant_check.proofs.PassedElements.{goes_on}
use Rattle.plant_check.proofs.ranges.check_top.Goals as goal

pub returns-in_err-check_number : goal.returns-in_err-check_number
returns-in_err-check_number c =
    stops_among c.from_residual.result _ _ _ c.from_residual.ensures.1 refl c.in_err-check_number.ensures

pub returns-in_err-check_line_cards : goal.returns-in_err-check_line_cards
returns-in_err-check_line_cards c =
    let card_time = c.in_ok-check_number.ensures in
    goes_on _ _ _ card_time
    (stops_among c.from_residual-in_err-check_line_cards.result _ _ _ c.from_residual-in_err-check_line_cards.ensures.1 refl c.in_err-check_line_cards.ensures)

pub returns-in_err-check_filled : goal.returns-in_err-check_filled
returns-in_err-check_filled c =
    let card_time = c.in_ok-check_number.ensures in
    let cards = c.in_ok-check_line_cards.ensures in
    goes_on _ _ _ card_time
    (goes_on _ _ _ cards (stops_among c.from_residual-in_err-check_filled.result _ _ _ c.from_residual-in_err-check_filled.ensures.1 refl c.in_err-check_filled.ensures))

pub returns-in_err-check_numbers : goal.returns-in_err-check_numbers
returns-in_err-check_numbers c =
    let card_time = c.in_ok-check_number.ensures in
    let cards = c.in_ok-check_line_cards.ensures in
    let some_date = c.in_ok-check_filled.ensures in
    goes_on _ _ _ card_time
    (goes_on _ _ _ cards (goes_on _ _ _ some_date (stops_among c.from_residual-in_err-check_numbers.result _ _ _ c.from_residual-in_err-check_numbers.ensures.1 refl c.in_err-check_numbers.ensures)))

pub returns-in_err-check_numbers-2 : goal.returns-in_err-check_numbers-2
returns-in_err-check_numbers-2 c =
    let card_time = c.in_ok-check_number.ensures in
    let cards = c.in_ok-check_line_cards.ensures in
    let some_date = c.in_ok-check_filled.ensures in
    let dates = c.in_ok-check_numbers.ensures in
    goes_on _ _ _ card_time
    (goes_on _ _ _ cards (goes_on _ _ _ some_date (goes_on _ _ _ dates (stops_among c.from_residual-in_err-check_numbers-2.result _ _ _ c.from_residual-in_err-check_numbers-2.ensures.1 refl c.in_err-check_numbers-2.ensures))))

pub returns : goal.returns
returns c =
    let card_time = c.in_ok-check_number.ensures in
    let cards = c.in_ok-check_line_cards.ensures in
    let some_date = c.in_ok-check_filled.ensures in
    let dates = c.in_ok-check_numbers.ensures in
    let observed = c.in_ok-check_numbers-2.ensures in
    goes_on _ _ _ card_time
    (goes_on _ _ _ cards (goes_on _ _ _ some_date (goes_on _ _ _ dates (goes_on _ _ _ observed c.check_filled-2.ensures))))
