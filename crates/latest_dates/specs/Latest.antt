-- How late each job may be at each station, where every customer waits at most a given time. Stations count from 0,
-- jobs from 1; the last station is the delivery. None stands for a date that nothing bounds.
-- Source: Baccelli, Cohen, Olsder, Quadrat, Synchronization and Linearity, residuation and the backward equations.
use Rattle.std.specs.Prelude.{◌≡◌, ℕ, ◌+◌, ◌-◌, ◌≤◌, ◌==◌, nat_le, min, if◌then◌else◌, List, [], ◌∷◌, Option, None, Some, ⊤}
use Rattle.line_base.specs.declared.event.Parts.{Parts}
use Rattle.event_graph.specs.Network.{stations, jobs, arc, demand, delay, outs}
use Rattle.event_graph.specs.Term.{work}
use Rattle.what_if.specs.Page.{IsDate}

-- a latest date, or none, for each station and each job
abbrev pub LatestTable : Type 0
LatestTable = ℕ → ℕ → Option ℕ

-- a date is no later than another; none is later than all
abbrev pub IsNoLater : Option ℕ → Option ℕ → Type 0
IsNoLater date None = ⊤
IsNoLater None (Some other) = ⊥
IsNoLater (Some date) (Some other) = date ≤ other

-- the earlier of two latest dates
abbrev pub earlier : Option ℕ → Option ℕ → Option ℕ
earlier None other = other
earlier (Some date) None = Some date
earlier (Some date) (Some other) = Some (min date other)

-- the earliest value of f on a list, none on the empty one
unfoldable pub earliest : (ℕ → Option ℕ) → List ℕ → Option ℕ
earliest f [] = None
earliest f (x ∷ xs) = earlier (f x) (earliest f xs)

-- at the delivery, the date until which the customer of job n waits
unfoldable pub promised_date : Parts → ℕ → ℕ → ℕ → Option ℕ
promised_date g may t n = if t == stations g - 1 then Some (demand g n + may) else None

-- how late a token must be put on arc a, for job m to be done at the arc's end by this date
abbrev pub put_by : Parts → ℕ → ℕ → Option ℕ → Option ℕ
put_by g a m None = None
put_by g a m (Some date) = Some (date - (delay g a + work g a m))

-- how late job n may be at the start of arc a, by the job that takes its token at the arc's end, if there is one
unfoldable pub bound : Parts → LatestTable → ℕ → ℕ → Option ℕ
bound g y n a =
    if nat_le (n + (arc g a).tokens) (jobs g)
    then put_by g a (n + (arc g a).tokens) (y (arc g a).to (n + (arc g a).tokens)) else None

-- the earliest of all that bounds job n at station t
unfoldable pub earliest_bound : Parts → ℕ → LatestTable → ℕ → ℕ → Option ℕ
earliest_bound g may y t n = earlier (promised_date g may t n) (earliest (bound g y n) (outs g t))

-- each latest date is the earliest of all that bounds it
pub record AreLatest (g : Parts) (may : ℕ) (y : LatestTable) : Type 0 where
  pub each : (t n : ℕ) → IsDate g t n → y t n ≡ earliest_bound g may y t n
