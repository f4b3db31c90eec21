-- The text of a `DateTable`, and of which plant a finished run is.
use Rattle.std.specs.Prelude.{◌≡◌, ℕ, false, List, map}
use Rattle.plant_model.specs.declared.plant.Plant.{Plant}
use Rattle.plant_model.specs.Line.{stage_numbers, path_stock}
use Rattle.event_graph.specs.Table.{date_in}
use Rattle.line_stats.specs.PlantDates.{PlantDates, AreOfPlant}
use Rattle.line_core.specs.Run.{IsLeastTable}
use Rattle.outside_io.specs.Outgoing.{Pending, nothing_waiting}
use Rattle.line_chart.specs.TableText.{table_text}
use Rattle.line_chart.specs.declared.table_run.TableRun.{TableRun}

-- the text of the table
abbrev pub text_of : PlantDates → List ℕ
text_of d = table_text d.plant (date_in d.rows)

-- the starting stock on the path of each stage, in order
abbrev pub path_stocks : Plant → List ℕ
path_stocks p = map (path_stock p) (stage_numbers p)

-- the numbers and the stocks of a finished run are those of its plant, and its graph and its table are of that plant
pub record IsTableRun (run : TableRun) : Type 0 where
  pub of_plant : AreOfPlant run.plant run.live run.table
  pub numbers : run.numbers ≡ run.plant
  pub stocks : run.stocks.items ≡ path_stocks run.plant

-- the dates of a run can be written: they are the least solution, and nothing is held back
abbrev pub IsWritable : TableRun → Pending → Type 0
IsWritable run out = IsTableRun run × IsLeastTable run.table × (out ≡ nothing_waiting false)
