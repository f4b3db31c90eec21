-- The window of a picture: the dates from its first on and before its end.
use Rattle.std.specs.Prelude.{ℕ, ◌-◌, max, Option, None, Some}
use Rattle.line_chart.specs.declared.window.Window.{Window}

-- how many dates there are in the window
abbrev pub span : Window → ℕ
span w = w.to - w.from

-- the window that is asked for, else all dates to the last, and the first one where that is 0
abbrev pub window_of : Option (ℕ × ℕ) → ℕ → Window
window_of None last = record { from = 0; to = max 1 last }
window_of (Some (from, to)) last = record { from = from; to = to }
