use Rattle.std.proofs.Common.{refl}
use Rattle.plant_file.proofs.FinishAnswers.{stops_with}
use Rattle.plant_file.proofs.finish.tables_in.Goals as goal

pub returns-in_err-dates-clause-refused : goal.returns-in_err-dates-clause-refused
returns-in_err-dates-clause-refused c =
    stops_with c.from_residual.result _ c.from_residual.ensures.1
    (λ ne. rw (c.in_err-dates.ensures.refused ne) refl)

pub returns-in_err-table-clause-refused : goal.returns-in_err-table-clause-refused
returns-in_err-table-clause-refused c =
    stops_with c.from_residual-in_err-table.result _ c.from_residual-in_err-table.ensures.1
    (λ ne. rw (c.in_ok-dates.ensures.held.good, c.in_err-table.ensures.refused ne) refl)
