-- What the calls of a `Sheet` do to what it stands for.
use Rattle.std.specs.Prelude.{ℕ, ◌+◌, ◌==◌, nat_le, if◌then◌else◌, Bool, true, false, List, slice_set}
use Rattle.std.specs.List.{fold}
use Rattle.event_graph.specs.Network.{jobs, arc, outs}
use Rattle.live_check.specs.Order.{LiveGraph}
use Rattle.what_if.specs.Edited.{with_number, with_time, with_demand}
use Rattle.what_if.specs.Page.{Page, slot, date_at, greatest_term}

-- the marks with one more, or one fewer
abbrev pub with_mark : Page → ℕ → ℕ → List Bool
with_mark p t n = slice_set p.marks (slot p.live t n) true

abbrev pub without_mark : Page → ℕ → ℕ → List Bool
without_mark p t n = slice_set p.marks (slot p.live t n) false

-- another time of job n at station t, which marks that date
abbrev pub with_new_time : Page → ℕ → ℕ → ℕ → Page
with_new_time p t n time = record p { inputs = with_time p.inputs t n time; marks = with_mark p t n }

-- another demand date of job n, which marks the feed's date
abbrev pub with_new_demand : Page → ℕ → ℕ → Page
with_new_demand p n date = record p { inputs = with_demand p.inputs n date; marks = with_mark p 0 n }

-- the marks with that of the date whose term through arc a reads the date of job n at the arc's start, if there is one
abbrev pub with_reader : LiveGraph → ℕ → List Bool → ℕ → List Bool
with_reader l n marks a =
    let job = n + (arc l.graph a).tokens in
    if nat_le job (jobs l.graph) then slice_set marks (slot l (arc l.graph a).to job) true
    else marks

-- the marks with those of all dates whose terms read the date of job n at station t
unfoldable pub with_readers : LiveGraph → ℕ → ℕ → List Bool → List Bool
with_readers l t n marks = fold (with_reader l n) marks (outs l.graph t)

-- the marks after an evaluation: its own is gone, and where the date changed those who read it are marked
unfoldable pub marks_after : Page → ℕ → ℕ → List Bool
marks_after p t n =
    if date_at p t n == greatest_term p t n then without_mark p t n
    else with_readers p.live t n (without_mark p t n)

-- the date of job n at station t becomes the greatest of its terms
unfoldable pub after_evaluation : Page → ℕ → ℕ → Page
after_evaluation p t n = record p {
  dates = with_number p.dates t n (greatest_term p t n);
  marks = marks_after p t n;
  evaluations = p.evaluations + 1;
}
