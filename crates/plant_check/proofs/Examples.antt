-- The note of a demand file at small lists of dates, against lines that were written by hand.
use Rattle.std.specs.Prelude.{◌≡◌, [], ◌∷◌, Some, codes, refl}
use Rattle.plant_check.specs.PlantNotes.{dates_note}

-- dates that look like the numbers of jobs
job_numbers : dates_note (Some (codes "orders.csv")) (1 ∷ 2 ∷ 3 ∷ []) ≡ codes "note: orders.csv counts up by one\n"
job_numbers = refl

two_dates : dates_note (Some (codes "orders.csv")) (1 ∷ 2 ∷ []) ≡ []
two_dates = refl
