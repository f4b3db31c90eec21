-- What a ratio says of the dates of the least solution.
-- Source: Baccelli, Cohen, Olsder, Quadrat, Synchronization and Linearity, cycle time and growth of daters.
use Rattle.std.specs.Prelude.{ℕ, ◌+◌, ◌*◌, ◌<◌, ◌≤◌, pos, ◌+ℤ◌, ◌≤ℤ◌, List}
use Rattle.std.specs.List.{range_with_len, Contains}
use Rattle.line_base.specs.declared.event.Parts.{Parts}
use Rattle.event_graph.specs.Network.{stations, jobs, arc_count, arc, demand}
use Rattle.event_graph.specs.Table.{Table}
use Rattle.event_graph.specs.Least.{IsLeast}
use Rattle.event_graph.specs.GreatestValue.{greatest}
use Rattle.event_graph.specs.Circuit.{starting_stations, tokens_on, time_along}
use Rattle.cycle_time.specs.declared.certificate.Certificate.{Certificate}
use Rattle.cycle_time.specs.Weight.{potential}

-- the greatest number of tokens on an arc
abbrev pub most_tokens : Parts → ℕ
most_tokens g = greatest (λ a. (arc g a).tokens) (range_with_len 0 (arc_count g))

-- no potential is below 0
abbrev pub NoneIsNegative : Parts → Certificate → Type 0
NoneIsNegative g c = (t : ℕ) → t < stations g → pos 0 ≤ℤ potential c.potentials t

-- what cards x a date of job n can be at most, but for the potential of its station
abbrev pub latest : Parts → Certificate → ℕ → ℕ
latest g c n = c.time * n + c.time * most_tokens g + c.cards * demand g (jobs g)

-- no date of the least solution grows faster than the ratio: cards x X_t(n) is at most
-- time x n + the potential of t + time x the most tokens + cards x the last demand date
abbrev pub BoundsDates : Parts → Certificate → Type 0
BoundsDates g c =
    (x : Table) → IsLeast g x → (t n : ℕ) → t < stations g → 1 ≤ n → n ≤ jobs g →
    pos (c.cards * x t n) ≤ℤ (pos (latest g c n) +ℤ potential c.potentials t)

-- at each station of the circuit, a job is later by the circuit's time than the one as many jobs before as it has
-- tokens
abbrev pub HoldsBack : Parts → List ℕ → Type 0
HoldsBack g arcs =
    (x : Table) → IsLeast g x → (t n : ℕ) → Contains (starting_stations g arcs) t → 1 ≤ n →
    n + tokens_on g arcs ≤ jobs g → x t n + time_along g arcs ≤ x t (n + tokens_on g arcs)
