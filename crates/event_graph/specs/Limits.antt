-- The sizes within which a graph is built.
use Rattle.std.specs.Prelude.{◌≡◌, ℕ, ◌+◌, ◌*◌, ◌≤◌, length, All}
use Rattle.std.specs.List.Sorted.{IsNonDecreasing}
use Rattle.line_base.specs.Limits.{most_stations, most_demands, most_dates, most_arcs, most_cards, longest_time, last_demand}
use Rattle.line_base.specs.declared.event.Parts.{Parts}
use Rattle.line_base.specs.declared.times.Times.{Times}
use Rattle.line_base.specs.declared.times.Times.TheVariants.{Fixed, Each}
use Rattle.event_graph.specs.Network.{stations, jobs, arc_count}

-- every job time is within the limit, and a list of times has one for each job
abbrev pub AreTimesFor : ℕ → Times → Type 0
AreTimesFor jobs (Fixed time) = time ≤ longest_time
AreTimesFor jobs (Each times) = (length times ≡ jobs) × All (λ time. time ≤ longest_time) times

-- at least one station and one job, demand dates in order, times for each station, a delay for each arc, and nothing past
-- its limit
pub record IsWithinLimits (g : Parts) : Type 0 where
  pub some_station : 1 ≤ stations g
  pub few_stations : stations g ≤ most_stations
  pub some_job : 1 ≤ jobs g
  pub few_jobs : jobs g ≤ most_demands
  pub small_table : stations g * jobs g ≤ most_dates
  pub demands_in_order : IsNonDecreasing g.dates
  pub demands_small : All (λ date. date ≤ last_demand) g.dates
  pub times_for_each : length g.times ≡ stations g
  pub times_small : All (AreTimesFor (jobs g)) g.times
  pub few_arcs : arc_count g ≤ most_arcs
  pub few_tokens : All (λ a. a.tokens ≤ most_cards) g.arcs
  pub delays_for_each : length g.delays ≡ arc_count g
  pub delays_small : All (λ delay. delay ≤ longest_time) g.delays

-- the graph has few arcs for its stations, as that of every plant has
abbrev pub HasFewArcs : Parts → Type 0
HasFewArcs g = arc_count g ≤ 3 * stations g + 59
