-- Which dates a text may give: none later than the latest that a state may be given with.
use Rattle.std.specs.Prelude.{ℕ, ◌≤◌, List, All}
use Rattle.line_core.specs.Parts.{LATEST_GIVEN}

-- no date is later than the latest that a text may give
abbrev pub AreGivenDates : List ℕ → Type 0
AreGivenDates dates = All (λ date. date ≤ LATEST_GIVEN) dates

abbrev pub AreGiven : List (List ℕ) → Type 0
AreGiven lists = All AreGivenDates lists
