-- The graph with other job times and demand dates.
use Rattle.std.specs.Prelude.{ℕ, ◌-◌, ◌<◌, ◌≤◌, List, [], map, length, slice_index, slice_index_or, slice_set}
use Rattle.std.specs.List.{range_with_len}
use Rattle.line_base.specs.declared.times.Times.TheVariants.{Each}
use Rattle.line_base.specs.declared.event.Parts.{Parts}
use Rattle.event_graph.specs.Network.{stations, jobs, time, demand}

-- what edits change: a time for each station and each job, and a date for each demand
pub record Inputs : Type 0 where
  pub times : List (List ℕ)
  pub demands : List ℕ

-- those of a graph
unfoldable pub times_of : Parts → ℕ → List ℕ
times_of g t = map (time g t) (range_with_len 1 (jobs g))

unfoldable pub inputs_of : Parts → Inputs
inputs_of g = record {
  times = map (times_of g) (range_with_len 0 (stations g));
  demands = map (demand g) (range_with_len 1 (jobs g));
}

-- the edited graph: stations, arcs, tokens and delays stay
abbrev pub edited_graph : Parts → Inputs → Parts
edited_graph g inputs = record g { times = map Each inputs.times; dates = inputs.demands }

-- lists of numbers, one a station, in which the number of job n at station t is another one
abbrev pub with_number : List (List ℕ) → ℕ → ℕ → ℕ → List (List ℕ)
with_number rows t n number = slice_set rows t (slice_set (slice_index_or rows t []) (n - 1) number)

-- another time of one job at one station, and another date of one demand
abbrev pub with_time : Inputs → ℕ → ℕ → ℕ → Inputs
with_time inputs t n time = record inputs { times = with_number inputs.times t n time }

abbrev pub with_demand : Inputs → ℕ → ℕ → Inputs
with_demand inputs n date = record inputs { demands = slice_set inputs.demands (n - 1) date }

-- job n is there, and this date is neither before the demand date of the job before it nor after that of the job after
-- it
pub record FitsBetween (demands : List ℕ) (n date : ℕ) : Type 0 where
  pub from_one : 1 ≤ n
  pub job : n ≤ length demands
  pub not_before : 2 ≤ n → slice_index demands (n - 2) ≤ date
  pub not_after : n < length demands → date ≤ slice_index demands n
