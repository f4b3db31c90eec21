-- The texts of a `Report`, and what is known of the run that it reports.
use Rattle.std.specs.Prelude.{◌≡◌, ℕ, List}
use Rattle.event_graph.specs.Table.{date_in}
use Rattle.line_stats.specs.PlantDates.{PlantDates, AreOfPlant}
use Rattle.line_report.specs.ReportText.{report}
use Rattle.line_report.specs.SummaryText.{summary}
use Rattle.line_report.specs.declared.run.FinishedRun.{FinishedRun}

-- the text of the report
abbrev pub report_of : PlantDates → List ℕ
report_of r = report r.plant (date_in r.rows)

-- the text of the summary
abbrev pub summary_of : PlantDates → List ℕ
summary_of r = summary r.plant (date_in r.rows)

-- the numbers of a finished run are those of its plant, and its graph and its table are of that plant
pub record IsOfRun (run : FinishedRun) : Type 0 where
  pub numbers : run.numbers ≡ run.plant
  pub of_plant : AreOfPlant run.plant run.live run.table
