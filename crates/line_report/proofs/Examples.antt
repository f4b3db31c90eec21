-- The texts of a report and of a summary at a small plant, against texts that were written by hand.
use Rattle.std.specs.Prelude.{◌≡◌, ℕ, List, [], ◌∷◌, ◌++◌, codes, refl}
use Rattle.std.specs.Fmt.{digits}
use Rattle.plant_model.specs.declared.plant.Plant.{Plant}
use Rattle.plant_model.specs.Graph.{graph, labels}
use Rattle.plant_model.proofs.TwoStage.{kanban_line, kanban_dates}
use Rattle.event_graph.specs.Table.{date_in}
use Rattle.event_graph.specs.GreatestValue.{greatest}
use Rattle.line_stats.specs.Counts.{count_until, in_process, in_move, in_stock, standing, backlog, last_date, peak, waiting}
use Rattle.line_stats.specs.DateSums.{date_total}
use Rattle.line_report.specs.SummaryText.{size_lines, sum_line, summary}
use Rattle.line_report.specs.ReportText.{date_line, station_lines, date_lines, stage_line, backlog_line, observed_lines, peak_line, waiting_line, last_line, report}

-- the line of two stages, observed at these dates
abbrev observing : List ℕ → Plant
observing observe = record kanban_line { observe = observe }

-- the lines of the dates
abbrev dates : List ℕ
dates =
    codes "feed 1 0\nfeed 2 2\nfeed 3 4\n"
    ++ codes "cut 1 0\ncut 2 5\ncut 3 10\n"
    ++ codes "cut.saw 1 3\ncut.saw 2 8\ncut.saw 3 13\n"
    ++ codes "weld 1 0\nweld 2 5\nweld 3 10\n"
    ++ codes "weld.torch 1 5\nweld.torch 2 10\nweld.torch 3 15\n"
    ++ codes "deliver 1 0\ndeliver 2 5\ndeliver 3 10\n"

dates_written : (observe : List ℕ) → date_lines (graph (observing observe)) (date_in kanban_dates) ≡ dates
unfolding date_lines station_lines date_line graph labels digits
dates_written observe = refl

peak_of_cut : (observe : List ℕ) → peak_line (observing observe) (date_in kanban_dates) 0 ≡ codes "peak cut 1 of 1\n"
unfolding peak_line peak standing in_process in_move in_stock count_until last_date greatest graph labels digits
peak_of_cut observe = refl

peak_of_weld : (observe : List ℕ) → peak_line (observing observe) (date_in kanban_dates) 1 ≡ codes "peak weld 1 of 1\n"
unfolding peak_line peak standing in_process in_move in_stock count_until last_date greatest graph labels digits
peak_of_weld observe = refl

all_waiting : (observe : List ℕ) → waiting_line (graph (observing observe)) (date_in kanban_dates) ≡ codes "waiting 9\n"
unfolding waiting_line waiting graph labels digits
all_waiting observe = refl

last_of_all : (observe : List ℕ) → last_line (graph (observing observe)) (date_in kanban_dates) ≡ codes "last 15\n"
unfolding last_line last_date greatest graph labels digits
last_of_all observe = refl

cut_observed : stage_line (observing (4 ∷ [])) (date_in kanban_dates) 4 0 ≡ codes "at 4 cut process 0 stock 1\n"
unfolding stage_line count_until in_process in_move in_stock graph digits
cut_observed = refl

weld_observed : stage_line (observing (4 ∷ [])) (date_in kanban_dates) 4 1 ≡ codes "at 4 weld process 1 stock 0\n"
unfolding stage_line count_until in_process in_move in_stock graph digits
weld_observed = refl

backlog_observed : backlog_line (observing (4 ∷ [])) (date_in kanban_dates) 4 ≡ codes "at 4 backlog 2\n"
unfolding backlog_line backlog count_until graph digits
backlog_observed = refl

-- the lines of the peaks and the totals
abbrev totals : List ℕ
totals = codes "peak cut 1 of 1\npeak weld 1 of 1\nwaiting 9\nlast 15\n"

report_of_plant : report (observing []) (date_in kanban_dates) ≡ dates ++ totals
unfolding report
report_of_plant = rw (dates_written [], peak_of_cut [], peak_of_weld [], all_waiting [], last_of_all []) refl

report_observed :
    report (observing (4 ∷ [])) (date_in kanban_dates)
    ≡ dates ++ (codes "at 4 cut process 0 stock 1\nat 4 weld process 1 stock 0\nat 4 backlog 2\n" ++ totals)
unfolding report observed_lines
report_observed =
    let observe : List ℕ = 4 ∷ [] in
    rw (dates_written observe, cut_observed, weld_observed, backlog_observed, peak_of_cut observe, peak_of_weld observe, all_waiting observe, last_of_all observe)
    refl

sizes_of_plant : (observe : List ℕ) → size_lines (graph (observing observe)) ≡ codes "stations 6\njobs 3\nfirings 18\n"
unfolding size_lines graph labels digits
sizes_of_plant observe = refl

-- 6 at the feed, 15 at cut, 24 at its saw, 15 at weld, 30 at its torch, 15 at the delivery
sum_of_plant : (observe : List ℕ) → sum_line (graph (observing observe)) (date_in kanban_dates) ≡ codes "sum 105\n"
unfolding sum_line date_total graph labels digits
sum_of_plant observe = refl

-- no date that is looked at changes it
summary_of_plant :
    (observe : List ℕ)
    → summary (observing observe) (date_in kanban_dates) ≡ codes "stations 6\njobs 3\nfirings 18\nsum 105\n" ++ totals
unfolding summary
summary_of_plant observe =
    rw (sizes_of_plant observe, sum_of_plant observe, peak_of_cut observe, peak_of_weld observe, all_waiting observe, last_of_all observe)
    refl
