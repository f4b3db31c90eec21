-- What holds of every `Sheet`.
use Rattle.std.specs.Prelude.{◌≡◌, ℕ, ◌+◌, ◌*◌, ◌<◌, ◌≤◌, Bool, true, false, List, [], length, slice_index_or}
use Rattle.line_base.specs.Limits.{longest_time, last_demand}
use Rattle.line_base.specs.declared.event.Parts.{Parts}
use Rattle.event_graph.specs.Network.{stations, jobs}
use Rattle.event_graph.specs.Limits.{IsWithinLimits}
use Rattle.live_check.specs.Order.{LiveGraph, IsRanked}
use Rattle.what_if.specs.Marks.{is_at}
use Rattle.what_if.specs.Edited.{inputs_of}
use Rattle.what_if.specs.Page.{Page, graph_of, IsDate, slot, is_marked, date_at, greatest_term, mark_count}

-- a list for each station, with a number for each job
pub record HasRows (g : Parts) (rows : List (List ℕ)) : Type 0 where
  pub row_for_each : length rows ≡ stations g
  pub number_for_each : (t : ℕ) → t < stations g → length (slice_index_or rows t []) ≡ jobs g

-- how many dates the graph has
abbrev pub date_count : Parts → ℕ
date_count g = stations g * jobs g

-- the latest date at a slot: the last demand, and twice the longest time for each slot up to it
abbrev pub latest_at : ℕ → ℕ
latest_at slot = last_demand + (slot + 1) * (2 * longest_time)

-- each date that isn't marked is the greatest of its terms in the edited graph
abbrev pub UnmarkedAreGreatest : Page → Type 0
UnmarkedAreGreatest p =
    (t n : ℕ) → IsDate p.live.graph t n → is_marked p t n ≡ false
    → date_at p t n ≡ greatest_term p t n

-- a time, a date of the table and a present date for each station and job, marks on dates that exist, no date late, and
-- each date that isn't marked the greatest of its terms
pub record IsSheet (p : Page) : Type 0 where
  pub ranked : IsRanked p.live
  pub limits : IsWithinLimits (graph_of p)
  pub demand_for_each : length p.inputs.demands ≡ jobs p.live.graph
  pub times : HasRows p.live.graph p.inputs.times
  pub first : HasRows p.live.graph p.first
  pub dates : HasRows p.live.graph p.dates
  pub room : date_count p.live.graph ≤ length p.marks
  pub marks_exist : (k : ℕ) → is_at p.marks k ≡ true → k < date_count p.live.graph
  pub early : (t n : ℕ) → IsDate p.live.graph t n → date_at p t n ≤ latest_at (slot p.live t n)
  pub greatest : UnmarkedAreGreatest p

-- what a sheet's fields stand for
abbrev pub page_of : LiveGraph → List (List ℕ) → List ℕ → List (List ℕ) → List (List ℕ)
    → List Bool → ℕ → Page
page_of live times demands first dates marks evaluations = record {
  live = live;
  inputs = record { times = times; demands = demands };
  first = first;
  dates = dates;
  marks = marks;
  evaluations = evaluations;
}

-- and the sheet has the ranks of its stations beside
pub record IsSheetWithRanks (p : Page) (ranks : List ℕ) : Type 0 where
  pub sheet : IsSheet p
  pub same_ranks : ranks ≡ p.live.ranks

-- a sheet as it is made: the graph's own times and demand dates, the dates of the table, and no mark
pub record IsBegun (live : LiveGraph) (rows : List (List ℕ)) (p : Page) : Type 0 where
  pub live_is : p.live ≡ live
  pub inputs_are : p.inputs ≡ inputs_of live.graph
  pub first_are : p.first ≡ rows
  pub dates_are : p.dates ≡ rows
  pub no_mark : mark_count p ≡ 0
  pub none_evaluated : p.evaluations ≡ 0
