-- Laws of the states that firings reach, each on a public function whose contract cites it.
use Rattle.std.specs.Prelude.{◌≡◌, ℕ, List, []}
use Rattle.std.specs.List.{Contains}
use Rattle.line_base.specs.declared.event.Parts.{Parts}
use Rattle.event_graph.specs.Table.{Table, date_in}
use Rattle.event_graph.specs.Least.{IsLeast}
use Rattle.event_graph.specs.Greatest.{IsGreatestOfTerms}
use Rattle.event_graph.specs.State.{State, log, tokens_in}
use Rattle.event_graph.specs.Firing.{CanFire}
use Rattle.event_graph.specs.Reached.{Reached}
use Rattle.event_graph.specs.Circuit.{IsCircuit, starting_stations, tokens_on}
use Rattle.live_check.specs.DeadCircuit.{IsDeadCircuit}
use Rattle.line_core.specs.Consistent.{IsFinished, IsNoLaterThan, LATEST_DATE}

-- a finished state that firings reach has the least solution in its logs
abbrev pub EndsLeast : Parts → Type 0
EndsLeast g = (s : State) → Reached g s → IsFinished g s → IsLeast g (date_in s.logs)

-- there is a least solution, and each of its dates is the greatest of its terms
abbrev pub HasLeast : Parts → Type 0
HasLeast g = (x : Table) × IsLeast g x × IsGreatestOfTerms g x

-- station t has not fired, and can't fire
pub record IsIdle (g : Parts) (s : State) (t : ℕ) : Type 0 where
  pub no_dates : log s t ≡ []
  pub stopped : ¬ CanFire g s t

-- no station on a circuit without a token fires, in any state that firings reach
abbrev pub DeadStationsStayIdle : Parts → Type 0
DeadStationsStayIdle g =
    (arcs : List ℕ) → IsDeadCircuit g arcs → (s : State) → Reached g s
    → (t : ℕ) → Contains (starting_stations g arcs) t → IsIdle g s t

-- in every state that firings reach a circuit has its tokens
abbrev pub KeepsNumbers : Parts → Type 0
KeepsNumbers g =
    (s : State) → Reached g s → (arcs : List ℕ) → IsCircuit g arcs → tokens_in s arcs ≡ tokens_on g arcs

-- no date of a state that firings reach is above the latest
abbrev pub StaysEarly : Parts → Type 0
StaysEarly g = (s : State) → Reached g s → IsNoLaterThan g s LATEST_DATE
