-- What a `Sheet` stands for once no date is marked, and what that cost.
use Rattle.std.specs.Prelude.{◌≡◌, ℕ, ◌+◌, ◌≤◌, ◌==◌, if◌then◌else◌, length}
use Rattle.std.specs.List.{range_with_len, sum_by}
use Rattle.line_base.specs.declared.event.Parts.{Parts}
use Rattle.event_graph.specs.Network.{stations, jobs, outs}
use Rattle.event_graph.specs.Table.{Table, date_in}
use Rattle.event_graph.specs.Least.{IsLeast}
use Rattle.what_if.specs.Page.{Page, graph_of, mark_count}
use Rattle.what_if.specs.Sheet.{date_count}

-- for each date that differs, the number of arcs out of its station, added up
unfoldable pub outs_if_changed : Parts → Table → Table → ℕ → ℕ → ℕ
outs_if_changed g x y t n = if x t n == y t n then 0 else length (outs g t)

unfoldable pub changed_outs_at : Parts → Table → Table → ℕ → ℕ
changed_outs_at g x y t = sum_by (outs_if_changed g x y t) (range_with_len 1 (jobs g))

unfoldable pub changed_outs : Parts → Table → Table → ℕ
changed_outs g x y = sum_by (changed_outs_at g x y) (range_with_len 0 (stations g))

-- the dates are the least solution of the edited graph
abbrev pub IsSolved : Page → Type 0
IsSolved p = IsLeast (graph_of p) (date_in p.dates)

-- no more evaluations were made than there were marks, and one for each arc out of the station of each date that
-- changed
abbrev pub HasEvaluatedFew : Page → Page → Type 0
HasEvaluatedFew old new =
    new.evaluations
    ≤ old.evaluations + mark_count old
    + changed_outs old.live.graph (date_in old.dates) (date_in new.dates)

-- no more evaluations were made than there are dates
abbrev pub HasEvaluatedEachOnce : Page → Page → Type 0
HasEvaluatedEachOnce old new = new.evaluations ≤ old.evaluations + date_count old.live.graph

-- only dates, marks and the number of evaluations differ
pub record KeepsInputs (old new : Page) : Type 0 where
  pub live : new.live ≡ old.live
  pub inputs : new.inputs ≡ old.inputs
  pub first : new.first ≡ old.first

-- only job times, demand dates and marks differ
pub record KeepsDates (old new : Page) : Type 0 where
  pub live : new.live ≡ old.live
  pub first : new.first ≡ old.first
  pub dates : new.dates ≡ old.dates
  pub evaluations : new.evaluations ≡ old.evaluations
