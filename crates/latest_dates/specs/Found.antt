-- What contracts see of a `Latest`, and when none is answered.
use Rattle.std.specs.Prelude.{◌≡◌, ℕ, ◌+◌, ◌-◌, ◌*◌, ◌≤◌, false, List, length, slice_index_or, Option, None, Some, ⊤}
use Rattle.line_base.specs.declared.event.Parts.{Parts}
use Rattle.event_graph.specs.Network.{stations, jobs, arc, delay}
use Rattle.event_graph.specs.Table.{Table, date_in}
use Rattle.event_graph.specs.Term.{work}
use Rattle.live_check.specs.Order.{LiveGraph}
use Rattle.line_core.specs.Run.{IsLeastTable}
use Rattle.outside_io.specs.Outgoing.{Pending, nothing_waiting}
use Rattle.what_if.specs.Page.{IsDate}
use Rattle.what_if.specs.Sheet.{date_count}
use Rattle.card_sizing.specs.Serving.{wait_until, NoneWaitsLonger, IsFirstLate}
use Rattle.latest_dates.specs.declared.error.LatestError.{LatestError}
use Rattle.latest_dates.specs.declared.error.LatestError.TheVariants.{Late, NoMemory}
use Rattle.latest_dates.specs.declared.run.LatestRun.{LatestRun}
use Rattle.latest_dates.specs.Latest.{LatestTable, IsNoLater, AreLatest}
use Rattle.latest_dates.specs.LatestText.{latest_text}

-- how long job n waits, from its demand until the last station is done with it
abbrev pub wait_of : Parts → Table → ℕ → ℕ
wait_of g x n = wait_until x (stations g - 1) n

-- no job waits longer than it may
abbrev pub IsInTime : Parts → Table → ℕ → Type 0
IsInTime g x may = NoneWaitsLonger (wait_of g x) (jobs g) may

-- why there are no latest dates: this job is the first that waits longer than it may, with how long it waits. Running
-- out of memory may come at any time.
abbrev pub IsLatestRefusal : Parts → Table → ℕ → LatestError → Type 0
IsLatestRefusal g x may (Late job wait) = IsFirstLate (wait_of g x) (jobs g) may job wait
IsLatestRefusal g x may NoMemory = ⊤

-- the index of job n at station t in a list where the dates of a station follow one another
unfoldable pub date_index : Parts → ℕ → ℕ → ℕ
date_index g t n = t * jobs g + (n - 1)

-- the latest dates that are kept station by station, as a table
abbrev pub latest_in : LiveGraph → List (Option ℕ) → LatestTable
latest_in l dates t n = slice_index_or dates (date_index l.graph t n) None

-- there is a latest date for each station and job
abbrev pub HasDates : LiveGraph → List (Option ℕ) → Type 0
HasDates l dates = length dates ≡ date_count l.graph

-- the latest date at the end of arc a, of the job that takes job n's token, leaves the time that the arc adds
abbrev pub LeavesTime : Parts → LatestTable → ℕ → ℕ → Type 0
LeavesTime g y n a =
    n + (arc g a).tokens ≤ jobs g
    → IsNoLater (Some (delay g a + work g a (n + (arc g a).tokens))) (y (arc g a).to (n + (arc g a).tokens))

-- a live graph with the order of its stations, the dates of its run in a list for each station, how long a customer
-- may wait, and the latest dates
pub record Found : Type 0 where
  pub live : LiveGraph
  pub rows : List (List ℕ)
  pub may : ℕ
  pub dates : List (Option ℕ)

-- the latest date of each job at each station
abbrev pub latest_of : Found → LatestTable
latest_of f = latest_in f.live f.dates

-- the text of the latest dates
abbrev pub text_of : Found → List ℕ
text_of f = latest_text f.live.graph (date_in f.rows) (latest_of f)

-- no latest date is before that of the table
abbrev pub NoneIsBefore : Parts → Table → LatestTable → Type 0
NoneIsBefore g x y = (t n : ℕ) → IsDate g t n → IsNoLater (Some (x t n)) (y t n)

-- the dates of the run are the least solution, in which every customer is in time; the latest dates are those for
-- this wait, and none is before the run's
pub record IsFound (f : Found) : Type 0 where
  pub least : IsLeastTable (record { graph = f.live.graph; rows = f.rows })
  pub in_time : IsInTime f.live.graph (date_in f.rows) f.may
  pub one_for_each : HasDates f.live f.dates
  pub latest : AreLatest f.live.graph f.may (latest_of f)
  pub not_before : NoneIsBefore f.live.graph (date_in f.rows) (latest_of f)

-- what a run with its latest dates is seen as
abbrev pub found_of : LatestRun → Found
found_of run = record { live = run.live; rows = run.table.rows; may = run.wait; dates = run.dates.items }

-- the table is of the graph, and its latest dates are found
pub record IsRun (run : LatestRun) : Type 0 where
  pub of_graph : run.table.graph ≡ run.live.graph
  pub found : IsFound (found_of run)

-- the latest dates of a run can be written: they are found, and nothing is held back
abbrev pub IsWritable : LatestRun → Pending → Type 0
IsWritable run out = IsRun run × (out ≡ nothing_waiting false)
