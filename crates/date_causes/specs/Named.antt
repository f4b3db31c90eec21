-- The date that a label and a job name.
use Rattle.std.specs.Prelude.{◌≢◌, ℕ, ◌<◌, ◌⊎◌, List}
use Rattle.line_base.specs.declared.event.Parts.{Parts}
use Rattle.event_graph.specs.Network.{stations, jobs, label}

-- no station has the label
abbrev pub NamesNone : Parts → List ℕ → Type 0
NamesNone g text = (t : ℕ) → t < stations g → label g t ≢ text

-- no station has the label, or there are fewer than n jobs
abbrev pub HasNoDate : Parts → List ℕ → ℕ → Type 0
HasNoDate g text n = NamesNone g text ⊎ (jobs g < n)
