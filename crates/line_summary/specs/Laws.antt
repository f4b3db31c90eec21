-- Laws of the summary's numbers and of curves, each on a public function whose contract cites it.
use Rattle.std.specs.Prelude.{◌≡◌, ℕ, ◌+◌, ◌-◌, ◌*◌, ◌<◌, ◌≤◌, nat_le, nat_lt, ◌&&◌, List, length, All, count_by, sum_by, IfSome, codes}
use Rattle.line_base.specs.Limits.{most_cards}
use Rattle.plant_model.specs.declared.plant.Plant.{Plant}
use Rattle.plant_model.specs.Line.{machine_at, stage_at, release, last_machine}
use Rattle.plant_model.specs.Bound.{bound}
use Rattle.plant_model.specs.Graph.{graph}
use Rattle.event_graph.specs.Table.{Table}
use Rattle.event_graph.specs.Solves.{Solves}
use Rattle.line_stats.specs.Between.{dates_until}
use Rattle.line_stats.specs.Counts.{job_numbers, last_date, waiting}
use Rattle.line_summary.specs.Machines.{busy}
use Rattle.line_summary.specs.OverTime.{sum_until, process_sum, backlog_sum, stage_sum}
use Rattle.line_summary.specs.Thousandths.{nearest, thousandths}
use Rattle.line_summary.specs.Points.{ArePoints}
use Rattle.line_summary.specs.declared.point.Point.{Point}

-- a stay: something comes in at a date, and leaves at a date
pub record Stay : Type 0 where
  pub entered : ℕ
  pub left : ℕ

-- how many are in at date v: they have come in by then, and have not left
abbrev pub inside : List Stay → ℕ → ℕ
inside stays v = count_by (λ s. nat_le s.entered v && nat_lt v s.left) stays

-- Little's law. Of any list of dates: how many are at most v, added up at each date v before an end, is the time from
-- each date to the end, added up. Source: Little 1961, A proof for the queuing formula L = lambda W, over a span at
-- whose end nothing is left inside.
abbrev pub DatesAddUp : Type 0
DatesAddUp = (dates : List ℕ) (end : ℕ) → sum_until end (dates_until dates) ≡ sum_by (λ date. end - date) dates

-- Of any stays that are over by an end: how many are in, added up at each date, is how long each stays, added up.
abbrev pub StaysAddUp : Type 0
StaysAddUp =
    (stays : List Stay) (end : ℕ) → All (λ s. s.left ≤ end) stays
    → sum_until end (inside stays) ≡ sum_by (λ s. s.left - s.entered) stays

-- the parts in process add up to the times from their release to their last machine, and the backlog to the waits
abbrev pub PartsAddUp : Plant → Type 0
PartsAddUp p =
    (x : Table) → Solves (graph p) x
    → (i : ℕ) → i < length p.stages
    → process_sum p x i ≡ sum_by (λ n. x (last_machine p i) n - x (release p i) n) (job_numbers (graph p))

abbrev pub BacklogAddsUp : Plant → Type 0
BacklogAddsUp p = (x : Table) → Solves (graph p) x → backlog_sum p x ≡ waiting (graph p) x

-- no machine works longer than its servers have time
abbrev pub IsBusyWithinServers : Plant → Type 0
IsBusyWithinServers p =
    (x : Table) → Solves (graph p) x
    → (i j : ℕ) → i < length p.stages → j < length (stage_at p i).machines
    → busy p i j ≤ (machine_at p i j).servers * last_date (graph p) x

-- where a stage's bound is a number, its parts add up to no more than that number at each date
abbrev pub HasBoundedMeans : Plant → Type 0
HasBoundedMeans p =
    (x : Table) → Solves (graph p) x
    → (i : ℕ) → i < length p.stages
    → IfSome (bound p i) (λ number. stage_sum p x i ≤ number * last_date (graph p) x)

-- where the last date is 0, means over time and shares of time are none
abbrev pub HasNoMeans : Plant → Table → Type 0
HasNoMeans p x = (sum : ℕ) → thousandths sum (last_date (graph p) x) ≡ codes "none"

abbrev pub HasNoShares : Plant → Table → Type 0
HasNoShares p x = (busy servers : ℕ) → thousandths busy (servers * last_date (graph p) x) ≡ codes "none"

-- the thousandths are no more than half a one above the ratio, and less than half a one below it
abbrev pub IsNearestAbove : ℕ → ℕ → Type 0
IsNearestAbove part whole = 2 * whole * nearest part whole ≤ 2000 * part + whole

abbrev pub IsNearestBelow : ℕ → ℕ → Type 0
IsNearestBelow part whole = 2000 * part + whole < 2 * whole * nearest part whole + 2 * whole

-- as many counts of cards, from c on, give the same points
abbrev pub HasOneCurve : Plant → Type 0
HasOneCurve p =
    (c : ℕ) (a b : List Point) → length a ≡ length b → c + length a ≤ most_cards + 1
    → ArePoints p c a → ArePoints p c b → a ≡ b
