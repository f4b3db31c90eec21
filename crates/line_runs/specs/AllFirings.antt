-- How many firings a run makes in all.
use Rattle.std.specs.Prelude.{ℕ, ◌*◌}
use Rattle.line_base.specs.declared.event.Parts.{Parts}
use Rattle.event_graph.specs.Network.{stations, jobs}

-- one for each station and job
abbrev pub all_firings : Parts → ℕ
all_firings g = stations g * jobs g
