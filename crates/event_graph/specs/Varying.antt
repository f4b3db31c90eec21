-- Which stations have a time of their own for each job.
use Rattle.std.specs.Prelude.{ℕ, slice_index_or}
use Rattle.line_base.specs.declared.times.Times.{Times}
use Rattle.line_base.specs.declared.times.Times.TheVariants.{Fixed, Each}
use Rattle.line_base.specs.declared.event.Parts.{Parts}

-- the job times are a list, with one for each job
abbrev pub IsList : Times → Type 0
IsList (Fixed time) = ⊥
IsList (Each times) = Unit {0}

-- station t has a list of times
abbrev pub Varies : Parts → ℕ → Type 0
Varies g t = IsList (slice_index_or g.times t (Fixed 0))
