-- The axis of a picture: the dates at which lines stand.
use Rattle.std.specs.Prelude.{ℕ, zero, suc, ◌+◌, ◌-◌, ◌*◌, ◌/◌, nat_le, if◌then◌else◌, List, map}
use Rattle.std.specs.List.{range_with_len}
use Rattle.line_chart.specs.declared.window.Window.{Window}
use Rattle.line_chart.specs.Window.{span}

-- the least step among one, two and five times this power of ten, and of the next ones, of which at most ten fit into
-- the span
unfoldable pub step_from : ℕ → ℕ → ℕ → ℕ
step_from zero ten span = ten
step_from (suc more) ten span =
    if nat_le (span / ten) 10
    then ten
    else if nat_le (span / (2 * ten)) 10
    then 2 * ten
    else if nat_le (span / (5 * ten)) 10
    then 5 * ten
    else step_from more (10 * ten) span

-- the least step among 1, 2, 5, 10, 20, 50, .. of which at most ten fit into the span, which is at most 10^16
abbrev pub axis_step : ℕ → ℕ
axis_step span = step_from 16 1 span

-- the least multiple of the step from `from` on is this one
abbrev pub first_multiple : ℕ → ℕ → ℕ
first_multiple step from = (from + step - 1) / step

-- each multiple of the step in the window, with its end
unfoldable pub multiples : ℕ → Window → List ℕ
multiples step w =
    map
    (λ k. step * k)
    (range_with_len (first_multiple step w.from) (w.to / step + 1 - first_multiple step w.from))

-- the dates of the axis
abbrev pub axis_dates : Window → List ℕ
axis_dates w = multiples (axis_step (span w)) w

-- where a date of the window stands, from the left of the picture
abbrev pub axis_x : Window → ℕ → ℕ
axis_x w d = 170 + (d - w.from) * 1000 / span w
