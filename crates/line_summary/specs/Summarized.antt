-- The text of a `Summary`, and what was found of its run beforehand.
use Rattle.std.specs.Prelude.{◌≡◌, ℕ, List}
use Rattle.line_base.specs.declared.event.Parts.{Parts}
use Rattle.plant_model.specs.declared.plant.Plant.{Plant}
use Rattle.plant_model.specs.Graph.{graph}
use Rattle.plant_model.specs.Sound.{IsSound}
use Rattle.event_graph.specs.Table.{Table, date_in}
use Rattle.line_core.specs.Run.{Dates}
use Rattle.line_stats.specs.PlantDates.{PlantDates}
use Rattle.line_summary.specs.Figures.{IsLine, figures}
use Rattle.line_summary.specs.Machines.{machine_uses}
use Rattle.line_summary.specs.SummaryText.{summary_text}
use Rattle.line_summary.specs.Waits.{percentile, at_once}
use Rattle.line_summary.specs.declared.percentiles.Percentiles.{Percentiles}
use Rattle.line_summary.specs.declared.texts.SummaryRun.{SummaryRun}

-- the text of the summary
abbrev pub text_of : PlantDates → List ℕ
text_of s = summary_text s.plant (date_in s.rows)

-- a sound plant, and a table of its graph
pub record IsOfPlant (p : Plant) (table : Dates) : Type 0 where
  pub sound : IsSound p
  pub of_plant : table.graph ≡ graph p

-- the percentiles of a graph's table, and how many jobs don't wait
pub record ArePercentiles (g : Parts) (x : Table) (r : Percentiles) : Type 0 where
  pub p50 : r.p50 ≡ percentile g x 50
  pub p90 : r.p90 ≡ percentile g x 90
  pub p95 : r.p95 ≡ percentile g x 95
  pub p99 : r.p99 ≡ percentile g x 99
  pub at_once : r.at_once ≡ at_once g x

-- what was found of a run is what its plant and its table say
pub record IsOfRun (r : SummaryRun) : Type 0 where
  pub line : IsLine r.plant r.numbers r.table
  pub figures : r.figures ≡ figures r.plant (date_in r.table.rows)
  pub percentiles : ArePercentiles (graph r.plant) (date_in r.table.rows) r.percentiles
  pub uses : r.uses.items ≡ machine_uses r.plant
