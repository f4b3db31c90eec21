-- What holds between the logs and the places of a state that firings reach, without their order.
use Rattle.std.specs.Prelude.{◌≡◌, ℕ, ◌+◌, ◌<◌, ◌≤◌, ◌==◌, if◌then◌else◌, List, [], ◌++◌, map, drop, length, replicate, slice_index, slice_index_or, sum_by, All}
use Rattle.std.specs.List.{range_with_len}
use Rattle.line_base.specs.declared.event.Parts.{Parts}
use Rattle.event_graph.specs.Network.{stations, jobs, arc_count, arc, demand, delay, ins}
use Rattle.event_graph.specs.Table.{date_in}
use Rattle.event_graph.specs.Term.{term}
use Rattle.event_graph.specs.State.{State, log, place}
use Rattle.event_graph.specs.GreatestValue.{greatest}

-- every token that arc a has held so far, in order: those of the start, then one for each date of
-- the log of the station where it starts
unfoldable pub all_tokens : Parts → List (List ℕ) → ℕ → List ℕ
all_tokens g logs a =
    replicate (arc g a).tokens 0 ++ map (λ date. date + delay g a) (slice_index_or logs (arc g a).from [])

-- those that are left on it: the station where it ends has taken one for each date of its log
abbrev pub tokens_left : Parts → List (List ℕ) → ℕ → List ℕ
tokens_left g logs a = drop (length (slice_index_or logs (arc g a).to [])) (all_tokens g logs a)

-- the date that the equations give to job n at station t over the logs
unfoldable pub due_date : Parts → List (List ℕ) → ℕ → ℕ → ℕ
due_date g logs t n =
    if t == 0 then demand g n else greatest (λ a. term g (date_in logs) a n) (ins g t)

-- the state with these logs, whose places hold what the logs leave on them
unfoldable pub state_of : Parts → List (List ℕ) → State
state_of g logs = record {
  logs = logs;
  places = map (tokens_left g logs) (range_with_len 0 (arc_count g));
}

-- no log is too long, no station has taken more tokens than were there, each date is the one that
-- the equations give over the logs, and each place holds what the logs leave on it
pub record IsConsistent (g : Parts) (s : State) : Type 0 where
  pub a_log_each : length s.logs ≡ stations g
  pub a_place_each : length s.places ≡ arc_count g
  pub few_dates : (t : ℕ) → t < stations g → length (log s t) ≤ jobs g
  pub tokens_suffice : (a : ℕ) → a < arc_count g → length (log s (arc g a).to) ≤ length (all_tokens g s.logs a)
  pub dates_are_due : (t k : ℕ) → t < stations g → k < length (log s t)
      → slice_index (log s t) k ≡ due_date g s.logs t (k + 1)
  pub places_are_left : (a : ℕ) → a < arc_count g → place s a ≡ tokens_left g s.logs a

-- every station has fired once for each job
abbrev pub IsFinished : Parts → State → Type 0
IsFinished g s = (t : ℕ) → t < stations g → length (log s t) ≡ jobs g

-- how many firings made the state
abbrev pub firing_count : State → ℕ
firing_count s = sum_by length s.logs

-- no date of a log or a place comes later
pub record IsNoLaterThan (g : Parts) (s : State) (latest : ℕ) : Type 0 where
  pub logs : (t : ℕ) → t < stations g → All (λ date. date ≤ latest) (log s t)
  pub places : (a : ℕ) → a < arc_count g → All (λ date. date ≤ latest) (place s a)

-- the latest date within the limits: the last demand, and twice the longest time for each date of a table
abbrev pub LATEST_DATE : ℕ
LATEST_DATE = 2_001_000_000_000_000
