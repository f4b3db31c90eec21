-- Why a station can't fire, and which station is behind.
use Rattle.std.specs.Prelude.{◌≡◌, ℕ, ◌<◌, ◌==◌, nat_lt, Bool, Option, Some, length, find}
use Rattle.std.specs.List.{range_with_len}
use Rattle.line_base.specs.declared.event.Parts.{Parts}
use Rattle.event_graph.specs.Network.{stations, jobs, ins}
use Rattle.event_graph.specs.State.{State, log, place}
use Rattle.line_core.specs.declared.error.FireError.{FireError}
use Rattle.line_core.specs.declared.error.FireError.TheVariants.{Done, Empty}
use Rattle.line_core.specs.Run.{Run}

-- no token is on arc a
abbrev pub is_empty : State → ℕ → Bool
is_empty s a = length (place s a) == 0

-- the first arc into station t without a token
abbrev pub first_empty : Parts → State → ℕ → Option ℕ
first_empty g s t = find (is_empty s) (ins g t)

-- station t has not fired once for each job
abbrev pub is_behind : Parts → State → ℕ → Bool
is_behind g s t = nat_lt (length (log s t)) (jobs g)

-- the first station that is behind
abbrev pub first_unfinished : Parts → State → Option ℕ
first_unfinished g s = find (is_behind g s) (range_with_len 0 (stations g))

-- `Done` says that the station has fired once for each job, `Empty` that it hasn't, and which of its
-- input places is the first without a token
abbrev pub Refuses : Run → ℕ → FireError → Type 0
Refuses r t Done = length (log r.state t) ≡ jobs r.graph
Refuses r t (Empty a) = (length (log r.state t) < jobs r.graph) × (first_empty r.graph r.state t ≡ Some a)
