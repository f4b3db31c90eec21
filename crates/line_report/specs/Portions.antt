-- The lines of all dates by their numbers, and what a thread formats of them.
use Rattle.std.specs.Prelude.{◌≡◌, ℕ, ◌+◌, ◌-◌, ◌*◌, ◌/◌, ◌%◌, ◌<◌, ◌≤◌, min, length, slice_index_or, List, ◌++◌, codes, decimal}
use Rattle.std.specs.List.{flat_map, range_with_len}
use Rattle.line_base.specs.declared.event.Parts.{Parts}
use Rattle.event_graph.specs.Network.{jobs}
use Rattle.event_graph.specs.Table.{Table}
use Rattle.line_report.specs.ReportText.{date_line}

-- how the line of a date begins: the label of its station and the number of its job
pub record LineStart : Type 0 where
  pub label : List ℕ
  pub job : ℕ

abbrev pub start_text : LineStart → List ℕ
start_text s = s.label ++ (codes " " ++ (decimal s.job ++ codes " "))

-- line i of all dates, from 0: station by station, and of each station job by job
unfoldable pub numbered_line : Parts → Table → ℕ → List ℕ
numbered_line g x i = date_line g x (i / jobs g) (i % jobs g + 1)

-- this many lines from line i on
unfoldable pub numbered_lines : Parts → Table → ℕ → ℕ → List ℕ
numbered_lines g x i count = flat_map (numbered_line g x) (range_with_len i count)

-- the jobs of station t behind the first few, this many lines
unfoldable pub job_lines : Parts → Table → ℕ → ℕ → ℕ → List ℕ
job_lines g x t before count = flat_map (date_line g x t) (range_with_len (before + 1) count)

-- the first line of portion number i, where each has `each` lines from line `from` on, and none is from line `to` on
abbrev pub share_start : ℕ → ℕ → ℕ → ℕ → ℕ
share_start from to each i = min (from + i * each) to

-- lines that follow one another, formatted, and the number of the line behind the last
pub record Formatted : Type 0 where
  pub lines : List ℕ
  pub end : ℕ

-- a portion has the lines from one number on, as far as its end, which is at most another number
pub record HasLines (g : Parts) (x : Table) (from to : ℕ) (p : Formatted) : Type 0 where
  pub begins : from ≤ p.end
  pub ends : p.end ≤ to
  pub text : p.lines ≡ numbered_lines g x from (p.end - from)

-- each portion has its share of the lines from one number on
abbrev pub HaveShares : Parts → Table → ℕ → ℕ → ℕ → List Formatted → Type 0
HaveShares g x from to each portions =
    (i : ℕ) (d : Formatted) → i < length portions
    → HasLines g x (share_start from to each i) (min (share_start from to each i + each) to)
    (slice_index_or portions i d)
