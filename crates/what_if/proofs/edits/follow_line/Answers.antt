use Rattle.std.proofs.Common.{refl}
use Rattle.what_if.proofs.edits.follow_line.Goals as goal

pub returns-then-is_empty-clause-dates : goal.returns-then-is_empty-clause-dates
returns-then-is_empty-clause-dates c = record { live = refl; first = refl; dates = refl; evaluations = refl }

pub returns-in-Some-clause-dates : goal.returns-in-Some-clause-dates
returns-in-Some-clause-dates c = c.follow_edit.ensures.dates

pub returns-in-None-clause-dates : goal.returns-in-None-clause-dates
returns-in-None-clause-dates c = record { live = refl; first = refl; dates = refl; evaluations = refl }

pub returns-in-Some-clause-unchanged : goal.returns-in-Some-clause-unchanged
returns-in-Some-clause-unchanged c = c.follow_edit.ensures.refused

pub returns-in-Some-clause-marks : goal.returns-in-Some-clause-marks
returns-in-Some-clause-marks c = c.follow_edit.ensures.marks
