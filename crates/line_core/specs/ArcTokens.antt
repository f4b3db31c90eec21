-- The tokens that an arc has held, and the numbers of those that it holds.
use Rattle.std.specs.Prelude.{◌≡◌, ℕ, ◌+◌, ◌≤◌, ◌<◌, ◌^◌, List, ◌++◌, map, replicate, slice_index, sum_by, All}
use Rattle.line_base.specs.declared.event.Parts.{Parts}
use Rattle.line_base.specs.Roomy.{RoomyLogs, log_at}
use Rattle.event_graph.specs.Network.{stations, jobs}
use Rattle.event_graph.specs.Circuit.{IsCircuit, tokens_on}

-- this many tokens of date 0, then one for each date, later by the delay
abbrev pub tokens_of : ℕ → List ℕ → ℕ → List ℕ
tokens_of initial dates delay = replicate initial 0 ++ map (λ date. date + delay) dates

-- each date and the delay have a sum of 64 bits
abbrev pub AddWithin : List ℕ → ℕ → Type 0
AddWithin dates delay = All (λ date. date + delay < 2 ^ 64) dates

-- each circuit has its tokens by these lengths of the places
abbrev pub FillsCircuits : Parts → List ℕ → Type 0
FillsCircuits g lengths =
    (arcs : List ℕ) → IsCircuit g arcs → sum_by (λ a. slice_index lengths a) arcs ≡ tokens_on g arcs

-- each log has room for one date a job
abbrev pub HasRoom : Parts → RoomyLogs → Type 0
HasRoom g logs = (t : ℕ) → t < stations g → jobs g ≤ (log_at logs t).room
