-- What a station's job times are, for every crate that speaks of them.
use Rattle.std.specs.Prelude.{ℕ, ◌-◌, slice_index}
use Rattle.line_base.specs.declared.times.Times.{Times}
use Rattle.line_base.specs.declared.times.Times.TheVariants.{Fixed, Each}

-- the time of a job, counted from 1
abbrev pub time_at : Times → ℕ → ℕ
time_at (Fixed time) job = time
time_at (Each times) job = slice_index times (job - 1)
