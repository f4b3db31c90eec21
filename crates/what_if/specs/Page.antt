-- What contracts see of a `Sheet`.
use Rattle.std.specs.Prelude.{ℕ, ◌+◌, ◌-◌, ◌*◌, ◌<◌, ◌≤◌, Bool, List, slice_index}
use Rattle.line_base.specs.declared.event.Parts.{Parts}
use Rattle.event_graph.specs.Network.{stations, jobs}
use Rattle.event_graph.specs.Table.{date_in}
use Rattle.live_check.specs.Order.{LiveGraph}
use Rattle.line_core.specs.Consistent.{due_date}
use Rattle.what_if.specs.Edited.{Inputs, edited_graph}
use Rattle.what_if.specs.Marks.{is_at, count_of}

-- the graph that the sheet was made for and the order of its stations; the present job times and demand dates; the
-- dates of the table, and the present ones, in a list for each station; which dates are marked, by slot; how many dates
-- were evaluated
pub record Page : Type 0 where
  pub live : LiveGraph
  pub inputs : Inputs
  pub first : List (List ℕ)
  pub dates : List (List ℕ)
  pub marks : List Bool
  pub evaluations : ℕ

-- the edited graph that the sheet stands for
abbrev pub graph_of : Page → Parts
graph_of p = edited_graph p.live.graph p.inputs

-- the graph has a date of job n at station t
pub record IsDate (g : Parts) (t n : ℕ) : Type 0 where
  pub station : t < stations g
  pub from_one : 1 ≤ n
  pub job : n ≤ jobs g

-- the number of that date in the order of evaluation: by job, then by the rank of the station
unfoldable pub slot : LiveGraph → ℕ → ℕ → ℕ
slot l t n = (n - 1) * stations l.graph + slice_index l.ranks t

-- whether it is marked, and how many dates are
abbrev pub is_marked : Page → ℕ → ℕ → Bool
is_marked p t n = is_at p.marks (slot p.live t n)

abbrev pub mark_count : Page → ℕ
mark_count p = count_of p.marks

-- the present date of job n at station t, and the greatest of its terms over the present dates; of the feed it is the
-- demand date
abbrev pub date_at : Page → ℕ → ℕ → ℕ
date_at p t n = date_in p.dates t n

abbrev pub greatest_term : Page → ℕ → ℕ → ℕ
greatest_term p t n = due_date (graph_of p) p.dates t n
