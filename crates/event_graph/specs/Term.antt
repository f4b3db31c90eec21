-- Source: Baccelli, Cohen, Olsder, Quadrat, Synchronization and Linearity, evolution equations.
use Rattle.std.specs.Prelude.{ℕ, ◌+◌, ◌-◌, nat_lt, if◌then◌else◌}
use Rattle.line_base.specs.declared.event.Parts.{Parts}
use Rattle.event_graph.specs.Network.{arc, time, delay}
use Rattle.event_graph.specs.Table.{Table}

-- the time for job n of the station that arc a enters, where the arc is worked, else 0
unfoldable pub work : Parts → ℕ → ℕ → ℕ
work g a n = if (arc g a).worked then time g (arc g a).to n else 0

-- the date at which the token that job n takes from arc a can be taken: 0 for a token of the start
abbrev pub token_date : Parts → Table → ℕ → ℕ → ℕ
token_date g x a n =
    if nat_lt (arc g a).tokens n then x (arc g a).from (n - (arc g a).tokens) + delay g a else 0

-- what arc a asks of the date of job n at the station that it enters
abbrev pub term : Parts → Table → ℕ → ℕ → ℕ
term g x a n = work g a n + token_date g x a n
