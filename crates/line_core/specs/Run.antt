-- What contracts see of a `State` and of a `Table`: the graph that it was made for, beside the dates.
use Rattle.std.specs.Prelude.{◌≡◌, ℕ, ◌<◌, ◌≤◌, List, [], length, slice_index_or}
use Rattle.line_base.specs.declared.event.Parts.{Parts}
use Rattle.line_base.specs.Roomy.{RoomyLogs, dates_of}
use Rattle.event_graph.specs.Network.{stations, jobs, IsGraph}
use Rattle.event_graph.specs.Limits.{IsWithinLimits}
use Rattle.event_graph.specs.Table.{date_in}
use Rattle.event_graph.specs.Least.{IsLeast}
use Rattle.event_graph.specs.Greatest.{IsGreatestOfTerms}
use Rattle.event_graph.specs.State.{State, start, tokens_in}
use Rattle.event_graph.specs.Firing.{after}
use Rattle.event_graph.specs.Reached.{Reached}
use Rattle.event_graph.specs.Circuit.{IsCircuit, tokens_on}
use Rattle.line_core.specs.Consistent.{state_of, IsNoLaterThan, LATEST_DATE}
use Rattle.line_core.specs.ArcTokens.{HasRoom}

-- a graph, and a state of it
pub record Run : Type 0 where
  pub graph : Parts
  pub state : State

-- no station of the graph has fired
abbrev pub first_run : Parts → Run
first_run g = record { graph = g; state = start g }

-- the same graph, after a firing of station t
abbrev pub fired_at : Run → ℕ → Run
fired_at r t = record { graph = r.graph; state = after r.graph r.state t }

-- firings lead from the start to the state, so no date is late, and each circuit has its tokens
pub record IsReached (r : Run) : Type 0 where
  pub sound : IsGraph r.graph
  pub limits : IsWithinLimits r.graph
  pub reached : Reached r.graph r.state
  pub early : IsNoLaterThan r.graph r.state LATEST_DATE
  pub circuits : (arcs : List ℕ) → IsCircuit r.graph arcs → tokens_in r.state arcs ≡ tokens_on r.graph arcs

-- the run of a graph in which the stations made the dates of these logs
abbrev pub run_of : Parts → RoomyLogs → Run
run_of g logs = record { graph = g; state = state_of g (dates_of logs) }

-- and each log has room for all of its dates
pub record IsRunWithRoom (g : Parts) (logs : RoomyLogs) : Type 0 where
  pub run : IsReached (run_of g logs)
  pub room : HasRoom g logs

-- a graph, and a list of dates for each of its stations
pub record Dates : Type 0 where
  pub graph : Parts
  pub rows : List (List ℕ)

-- each station has one date for each job, none is late, and together they are the least solution, in which each date is
-- the greatest of its terms
pub record IsLeastTable (d : Dates) : Type 0 where
  pub sound : IsGraph d.graph
  pub limits : IsWithinLimits d.graph
  pub a_row_each : length d.rows ≡ stations d.graph
  pub a_date_each : (t : ℕ) → t < stations d.graph → length (slice_index_or d.rows t []) ≡ jobs d.graph
  pub early : (t n : ℕ) → date_in d.rows t n ≤ LATEST_DATE
  pub least : IsLeast d.graph (date_in d.rows)
  pub greatest : IsGreatestOfTerms d.graph (date_in d.rows)
