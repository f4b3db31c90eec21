-- The text of a report of a plant over a table of dates of its graph. Stages, stations and dates count from 0, jobs
-- from 1.
use Rattle.std.specs.Prelude.{ℕ, nat_lt, if◌then◌else◌, List, [], ◌∷◌, ◌++◌, Option, Some, None, codes, decimal}
use Rattle.std.specs.List.{flat_map, range_with_len}
use Rattle.line_base.specs.declared.event.Parts.{Parts}
use Rattle.plant_model.specs.declared.plant.Plant.{Plant}
use Rattle.plant_model.specs.Line.{stage_at, stage_numbers}
use Rattle.plant_model.specs.Graph.{graph}
use Rattle.event_graph.specs.Network.{stations, label}
use Rattle.event_graph.specs.Table.{Table}
use Rattle.plant_model.specs.Bound.{bound}
use Rattle.line_stats.specs.Counts.{job_numbers, in_process, in_move, in_stock, backlog, peak, waiting, last_date}

-- words with single spaces between them, and a line feed at the end
abbrev pub line : List (List ℕ) → List ℕ
line [] = codes "\n"
line (word ∷ []) = word ++ codes "\n"
line (word ∷ words) = word ++ (codes " " ++ line words)

-- the date of job n at station t
unfoldable pub date_line : Parts → Table → ℕ → ℕ → List ℕ
date_line g x t n = line (label g t ∷ decimal n ∷ decimal (x t n) ∷ [])

-- the dates of all jobs at station t
unfoldable pub station_lines : Parts → Table → ℕ → List ℕ
station_lines g x t = flat_map (date_line g x t) (job_numbers g)

-- the dates of all jobs at all stations
unfoldable pub date_lines : Parts → Table → List ℕ
date_lines g x = flat_map (station_lines g x) (range_with_len 0 (stations g))

-- what is in stage i at date v, with what is on its way where the way takes time
unfoldable pub stage_line : Plant → Table → ℕ → ℕ → List ℕ
stage_line p x v i =
    if nat_lt 0 (stage_at p i).travel
    then line
    (codes "at" ∷ decimal v ∷ (stage_at p i).name ∷ codes "process" ∷ decimal (in_process p x i v)
    ∷ codes "move" ∷ decimal (in_move p x i v) ∷ codes "stock" ∷ decimal (in_stock p x i v) ∷ [])
    else line
    (codes "at" ∷ decimal v ∷ (stage_at p i).name ∷ codes "process" ∷ decimal (in_process p x i v)
    ∷ codes "stock" ∷ decimal (in_stock p x i v) ∷ [])

-- the demands that are not delivered at date v
unfoldable pub backlog_line : Plant → Table → ℕ → List ℕ
backlog_line p x v = line (codes "at" ∷ decimal v ∷ codes "backlog" ∷ decimal (backlog p x v) ∷ [])

-- what is in all stages at date v, and the backlog
unfoldable pub observed_lines : Plant → Table → ℕ → List ℕ
observed_lines p x v = flat_map (stage_line p x v) (stage_numbers p) ++ backlog_line p x v

-- the bound of a stage, if it has one
abbrev pub bound_word : Option ℕ → List ℕ
bound_word (Some bound) = decimal bound
bound_word None = codes "none"

-- the most parts that are ever in stage i, and its bound
unfoldable pub peak_line : Plant → Table → ℕ → List ℕ
peak_line p x i =
    line (codes "peak" ∷ (stage_at p i).name ∷ decimal (peak p x i) ∷ codes "of" ∷ bound_word (bound p i) ∷ [])

-- how long all jobs together wait
unfoldable pub waiting_line : Parts → Table → List ℕ
waiting_line g x = line (codes "waiting" ∷ decimal (waiting g x) ∷ [])

-- the greatest date
unfoldable pub last_line : Parts → Table → List ℕ
last_line g x = line (codes "last" ∷ decimal (last_date g x) ∷ [])

-- how a report and a summary end: the peaks of all stages, and two totals
abbrev pub end_lines : Plant → Table → List ℕ
end_lines p x =
    flat_map (peak_line p x) (stage_numbers p) ++ (waiting_line (graph p) x ++ last_line (graph p) x)

-- the report: all dates, what is observed at each date that is looked at, the peaks of all stages, and two totals
unfoldable pub report : Plant → Table → List ℕ
report p x = date_lines (graph p) x ++ (flat_map (observed_lines p x) p.observe ++ end_lines p x)
