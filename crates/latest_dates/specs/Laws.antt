-- Laws of latest dates, each on a public function whose contract cites it.
use Rattle.std.specs.Prelude.{◌≡◌, ℕ, ◌+◌, ◌-◌, ◌<◌, ◌≤◌, nat_lt, if◌then◌else◌, Option, None, Some}
use Rattle.line_base.specs.declared.event.Parts.{Parts}
use Rattle.event_graph.specs.Network.{stations, jobs, arc, arc_count, demand, delay}
use Rattle.event_graph.specs.Table.{Table}
use Rattle.event_graph.specs.Term.{work}
use Rattle.event_graph.specs.Solves.{Solves}
use Rattle.what_if.specs.Page.{IsDate}
use Rattle.latest_dates.specs.Latest.{LatestTable, IsNoLater, AreLatest}

-- no job is delivered later than its demand date plus the longest wait
abbrev pub IsServed : Parts → ℕ → Table → Type 0
IsServed g may z = (n : ℕ) → 1 ≤ n → n ≤ jobs g → z (stations g - 1) n ≤ demand g n + may

-- what arc a asks of the date of job n at the station that it enters: a term of the evolution equations, over dates
-- of which some are none
abbrev pub term_of : Parts → ℕ → ℕ → Option ℕ → Option ℕ
term_of g a n None = None
term_of g a n (Some date) = Some (work g a n + (date + delay g a))

abbrev pub late_term : Parts → LatestTable → ℕ → ℕ → Option ℕ
late_term g y a n =
    if nat_lt (arc g a).tokens n then term_of g a n (y (arc g a).from (n - (arc g a).tokens)) else Some (work g a n)

-- each date is no earlier than any of its terms, as in a solution of the graph
pub record SolvesWithNone (g : Parts) (y : LatestTable) : Type 0 where
  pub feed : (n : ℕ) → 1 ≤ n → n ≤ jobs g → IsNoLater (Some (demand g n)) (y 0 n)
  pub others : (a n : ℕ) → a < arc_count g → 1 ≤ n → n ≤ jobs g → IsNoLater (late_term g y a n) (y (arc g a).to n)

-- where some table solves the graph and serves, the latest dates solve it, with none as later than all
abbrev pub LatestSolve : Parts → Type 0
LatestSolve g =
    (may : ℕ) (x : Table) → Solves g x → IsServed g may x
    → (y : LatestTable) → AreLatest g may y → SolvesWithNone g y

-- and so they do as a table, where none of them is none
abbrev pub AreDates : Parts → LatestTable → Table → Type 0
AreDates g y z = (t n : ℕ) → IsDate g t n → y t n ≡ Some (z t n)

abbrev pub LatestSolveAsTable : Parts → Type 0
LatestSolveAsTable g =
    (may : ℕ) (x : Table) → Solves g x → IsServed g may x
    → (y : LatestTable) → AreLatest g may y → (z : Table) → AreDates g y z → Solves g z

-- by them no job is delivered later than its demand date plus the longest wait
abbrev pub LatestServe : Parts → Type 0
LatestServe g =
    (may : ℕ) (y : LatestTable) → AreLatest g may y
    → (n : ℕ) → 1 ≤ n → n ≤ jobs g → IsNoLater (y (stations g - 1) n) (Some (demand g n + may))

-- no table that solves the graph and serves is later anywhere
abbrev pub NoneIsLater : Parts → Type 0
NoneIsLater g =
    (may : ℕ) (y : LatestTable) → AreLatest g may y
    → (z : Table) → Solves g z → IsServed g may z
    → (t n : ℕ) → IsDate g t n → IsNoLater (Some (z t n)) (y t n)

-- where there is none, tables that solve the graph and serve are as late as one likes
pub record IsServedBeyond (g : Parts) (may t n late : ℕ) (z : Table) : Type 0 where
  pub solves : Solves g z
  pub serves : IsServed g may z
  pub beyond : late < z t n

abbrev pub NoneIsUnbounded : Parts → Type 0
NoneIsUnbounded g =
    (may : ℕ) (x : Table) → Solves g x → IsServed g may x
    → (y : LatestTable) → AreLatest g may y
    → (t n : ℕ) → IsDate g t n → y t n ≡ None
    → (late : ℕ) → (z : Table) × IsServedBeyond g may t n late z

-- there is no other table of latest dates
abbrev pub LatestAreOne : Parts → Type 0
LatestAreOne g =
    (may : ℕ) (y z : LatestTable) → AreLatest g may y → AreLatest g may z
    → (t n : ℕ) → IsDate g t n → y t n ≡ z t n
