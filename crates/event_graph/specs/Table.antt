-- Source: Baccelli, Cohen, Olsder, Quadrat, Synchronization and Linearity, daters.
use Rattle.std.specs.Prelude.{◌≡◌, ℕ, zero, suc, ◌<◌, ◌≤◌, List, [], slice_index, slice_index_or}
use Rattle.line_base.specs.declared.event.Parts.{Parts}
use Rattle.event_graph.specs.Network.{stations, jobs}

-- a date for each station t and each job n, where stations are counted from 0 and jobs from 1
abbrev pub Table : Type 0
Table = ℕ → ℕ → ℕ

-- the table whose rows are these lists; the date of job 0 is 0
abbrev pub date_in : List (List ℕ) → Table
date_in rows t zero = 0
date_in rows t (suc n) = slice_index (slice_index_or rows t []) n

-- the same date for each station and each job of the graph
abbrev pub IsSameTable : Parts → Table → Table → Type 0
IsSameTable g x y = (t n : ℕ) → t < stations g → 1 ≤ n → n ≤ jobs g → x t n ≡ y t n
