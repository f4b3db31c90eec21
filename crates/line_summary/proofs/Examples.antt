-- The summary of a small plant, against the text that was written by hand, and that of a plant in which nothing takes
-- time.
use Rattle.std.specs.Prelude.{◌≡◌, ℕ, List, [], ◌∷◌, ◌++◌, None, codes, refl}
use Rattle.std.specs.Fmt.{digits}
use Rattle.plant_model.specs.declared.plant.Plant.{Plant}
use Rattle.plant_model.specs.Graph.{graph, labels}
use Rattle.plant_model.proofs.TwoStage.{machine, stage, kanban_line, kanban_dates}
use Rattle.event_graph.specs.Table.{date_in}
use Rattle.event_graph.specs.GreatestValue.{greatest}
use Rattle.line_stats.specs.Counts.{count_until, in_process, in_move, in_stock, standing, backlog, last_date, peak, waiting}
use Rattle.line_summary.specs.Thousandths.{nearest, decimal_text, thousandths}
use Rattle.line_summary.specs.OverTime.{sum_until, parts_sum, most_backlog}
use Rattle.line_summary.specs.Waits.{most_wait, worst_job, within, percentile, at_once}
use Rattle.line_summary.specs.Machines.{busy, machine_uses}
use Rattle.line_summary.specs.SummaryText.{job_lines, wait_line, percentile_line, at_once_line, backlog_line, parts_line, head_lines, stage_line, machine_line, busiest_line, summary_text}

-- a half is rounded up
halves : thousandths 1 2000 ≡ codes "0.001"
unfolding nearest decimal_text digits
halves = refl

third : thousandths 10 3 ≡ codes "3.333"
unfolding nearest decimal_text digits
third = refl

nearly : thousandths 1999999 1000000 ≡ codes "2.000"
unfolding nearest decimal_text digits
nearly = refl

head : head_lines kanban_line (date_in kanban_dates) ≡ codes "jobs 3\nlast 15\nthroughput 0.200\nwait mean 3.000 most 6 job 3\nwait p50 3 p90 6 p95 6 p99 6\nat once 1 of 3\nbacklog mean 0.600 most 2\nwip mean 2.000\n"
unfolding head_lines job_lines wait_line percentile_line at_once_line backlog_line parts_line waiting most_wait worst_job within percentile at_once most_backlog parts_sum sum_until in_process in_move in_stock backlog count_until last_date greatest graph labels nearest decimal_text digits
head = refl

cut : stage_line kanban_line (date_in kanban_dates) 0 ≡ codes "stage cut process 0.600 move 0.000 stock 0.400 peak 1 of 1\n"
unfolding stage_line peak standing sum_until in_process in_move in_stock count_until last_date greatest graph labels nearest decimal_text digits
cut = refl

weld : stage_line kanban_line (date_in kanban_dates) 1 ≡ codes "stage weld process 1.000 move 0.000 stock 0.000 peak 1 of 1\n"
unfolding stage_line peak standing sum_until in_process in_move in_stock count_until last_date greatest graph labels nearest decimal_text digits
weld = refl

text_of_plant :
    summary_text kanban_line (date_in kanban_dates)
    ≡ codes "jobs 3\nlast 15\nthroughput 0.200\nwait mean 3.000 most 6 job 3\nwait p50 3 p90 6 p95 6 p99 6\nat once 1 of 3\nbacklog mean 0.600 most 2\nwip mean 2.000\n"
    ++ codes "stage cut process 0.600 move 0.000 stock 0.400 peak 1 of 1\nstage weld process 1.000 move 0.000 stock 0.000 peak 1 of 1\n"
    ++ codes "machine cut.saw servers 1 busy 0.600\nmachine weld.torch servers 1 busy 1.000\nbusiest weld.torch\n"
unfolding summary_text machine_line busiest_line machine_uses busy last_date greatest graph labels nearest decimal_text digits
text_of_plant = rw (head, cut, weld) refl

-- `solo` with `m`, where nothing takes time
abbrev timeless : Plant
timeless = record kanban_line { stages = stage (codes "solo") None 1 0 (machine (codes "m") 0) ∷ []; demands = 0 ∷ [] }

abbrev zeros : List (List ℕ)
zeros = (0 ∷ []) ∷ (0 ∷ []) ∷ (0 ∷ []) ∷ (0 ∷ []) ∷ []

text_of_timeless :
    summary_text timeless (date_in zeros)
    ≡ codes "jobs 1\nlast 0\nthroughput none\nwait mean 0.000 most 0 job 1\nwait p50 0 p90 0 p95 0 p99 0\nat once 1 of 1\nbacklog mean none most 0\nwip mean none\nstage solo process none move none stock none peak 1 of 1\nmachine solo.m servers 1 busy none\nbusiest solo.m\n"
unfolding summary_text head_lines job_lines wait_line percentile_line at_once_line backlog_line parts_line stage_line machine_line busiest_line machine_uses busy peak standing waiting most_wait worst_job within percentile at_once most_backlog parts_sum sum_until in_process in_move in_stock backlog count_until last_date greatest graph labels nearest decimal_text digits
text_of_timeless = refl
