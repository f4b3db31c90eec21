-- The text of a summary of a plant's run: its sizes and the sum of its dates in place of the dates, and then as a
-- report ends.
use Rattle.std.specs.Prelude.{ℕ, ◌*◌, List, [], ◌∷◌, ◌++◌, codes, decimal}
use Rattle.line_base.specs.declared.event.Parts.{Parts}
use Rattle.plant_model.specs.declared.plant.Plant.{Plant}
use Rattle.plant_model.specs.Graph.{graph}
use Rattle.event_graph.specs.Network.{stations, jobs}
use Rattle.event_graph.specs.Table.{Table}
use Rattle.line_stats.specs.DateSums.{date_total}
use Rattle.line_report.specs.ReportText.{line, end_lines}

-- a word, and a number behind it
abbrev pub number_line : List ℕ → ℕ → List ℕ
number_line word n = line (word ∷ decimal n ∷ [])

-- the stations, the jobs, and the firings of a whole run: each station fires once for each job
unfoldable pub size_lines : Parts → List ℕ
size_lines g =
    number_line (codes "stations") (stations g)
    ++ (number_line (codes "jobs") (jobs g) ++ number_line (codes "firings") (stations g * jobs g))

-- the sum of all dates
unfoldable pub sum_line : Parts → Table → List ℕ
sum_line g x = number_line (codes "sum") (date_total g x)

-- the summary: the sizes, the sum of all dates, the peaks of all stages, and two totals
unfoldable pub summary : Plant → Table → List ℕ
summary p x = size_lines (graph p) ++ (sum_line (graph p) x ++ end_lines p x)
