-- The text of a summary of a plant over a table of dates of its graph.
use Rattle.std.specs.Prelude.{ℕ, ◌*◌, List, [], ◌∷◌, ◌++◌, codes, decimal}
use Rattle.std.specs.List.{flat_map}
use Rattle.plant_model.specs.declared.plant.Plant.{Plant}
use Rattle.plant_model.specs.Line.{stage_at, stage_numbers}
use Rattle.plant_model.specs.Graph.{graph}
use Rattle.plant_model.specs.Bound.{bound}
use Rattle.event_graph.specs.Network.{jobs}
use Rattle.event_graph.specs.Table.{Table}
use Rattle.line_stats.specs.Counts.{peak, waiting, last_date}
use Rattle.line_report.specs.ReportText.{line, bound_word}
use Rattle.line_summary.specs.Thousandths.{thousandths}
use Rattle.line_summary.specs.OverTime.{process_sum, move_sum, stock_sum, backlog_sum, parts_sum, most_backlog}
use Rattle.line_summary.specs.Waits.{most_wait, worst_job, percentile, at_once}
use Rattle.line_summary.specs.declared.machines.MachineUse.{MachineUse}
use Rattle.line_summary.specs.Machines.{machine_uses, busiest_of, label_of}

-- how many jobs there are, the last date, and how many jobs are delivered in a unit of time
unfoldable pub job_lines : ℕ → ℕ → List ℕ
job_lines jobs last =
    line (codes "jobs" ∷ decimal jobs ∷ [])
    ++ (line (codes "last" ∷ decimal last ∷ []) ++ line (codes "throughput" ∷ thousandths jobs last ∷ []))

-- the mean wait of a job, the greatest, and the first job with it
unfoldable pub wait_line : ℕ → ℕ → ℕ → ℕ → List ℕ
wait_line waited jobs most job =
    line
    (codes "wait" ∷ codes "mean" ∷ thousandths waited jobs
    ∷ codes "most" ∷ decimal most ∷ codes "job" ∷ decimal job ∷ [])

-- the waits that 50, 90, 95 and 99 percent of the jobs don't exceed
unfoldable pub percentile_line : ℕ → ℕ → ℕ → ℕ → List ℕ
percentile_line p50 p90 p95 p99 =
    line
    (codes "wait" ∷ codes "p50" ∷ decimal p50 ∷ codes "p90" ∷ decimal p90
    ∷ codes "p95" ∷ decimal p95 ∷ codes "p99" ∷ decimal p99 ∷ [])

-- how many of the jobs don't wait
unfoldable pub at_once_line : ℕ → ℕ → List ℕ
at_once_line count jobs = line (codes "at" ∷ codes "once" ∷ decimal count ∷ codes "of" ∷ decimal jobs ∷ [])

-- the mean backlog and the greatest
unfoldable pub backlog_line : ℕ → ℕ → ℕ → List ℕ
backlog_line sum last most =
    line (codes "backlog" ∷ codes "mean" ∷ thousandths sum last ∷ codes "most" ∷ decimal most ∷ [])

-- the mean of all parts in the line
unfoldable pub parts_line : ℕ → ℕ → List ℕ
parts_line sum last = line (codes "wip" ∷ codes "mean" ∷ thousandths sum last ∷ [])

-- a word, and the mean behind it
abbrev pub mean_words : List ℕ → ℕ → ℕ → List ℕ
mean_words word sum last = word ++ thousandths sum last

-- the mean parts of stage i in process, on their travel and in stock, and its peak with its bound
unfoldable pub stage_line : Plant → Table → ℕ → List ℕ
stage_line p x i =
    let last = last_date (graph p) x in
    line
    (codes "stage" ∷ (stage_at p i).name ∷ codes "process" ∷ thousandths (process_sum p x i) last
    ∷ codes "move" ∷ thousandths (move_sum p x i) last ∷ codes "stock" ∷ thousandths (stock_sum p x i) last
    ∷ codes "peak" ∷ decimal (peak p x i) ∷ codes "of" ∷ bound_word (bound p i) ∷ [])

-- a machine, its servers, and the share of their time that they work
unfoldable pub machine_line : Plant → ℕ → MachineUse → List ℕ
machine_line p last u =
    line
    (codes "machine" ∷ label_of p u ∷ codes "servers" ∷ decimal u.servers
    ∷ codes "busy" ∷ thousandths u.busy (u.servers * last) ∷ [])

-- the busiest machine
unfoldable pub busiest_line : Plant → List ℕ
busiest_line p = line (codes "busiest" ∷ label_of p (busiest_of (machine_uses p)) ∷ [])

-- what is said of the jobs
unfoldable pub head_lines : Plant → Table → List ℕ
head_lines p x =
    let g = graph p in
    let last = last_date g x in
    job_lines (jobs g) last
    ++ (wait_line (waiting g x) (jobs g) (most_wait g x) (worst_job g x)
    ++ (percentile_line (percentile g x 50) (percentile g x 90) (percentile g x 95) (percentile g x 99)
    ++ (at_once_line (at_once g x) (jobs g)
    ++ (backlog_line (backlog_sum p x) last (most_backlog p x) ++ parts_line (parts_sum p x) last))))

-- the whole text: what is said of the jobs, of each stage, of each machine, and of the busiest
unfoldable pub summary_text : Plant → Table → List ℕ
summary_text p x =
    head_lines p x
    ++ (flat_map (stage_line p x) (stage_numbers p)
    ++ (flat_map (machine_line p (last_date (graph p) x)) (machine_uses p) ++ busiest_line p))
