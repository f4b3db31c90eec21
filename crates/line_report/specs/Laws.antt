-- The law on the reports of a plant, on a public function whose contract cites it.
use Rattle.std.specs.Prelude.{◌≡◌}
use Rattle.plant_model.specs.declared.plant.Plant.{Plant}
use Rattle.plant_model.specs.Graph.{graph}
use Rattle.event_graph.specs.Table.{Table}
use Rattle.event_graph.specs.Least.{IsLeast}
use Rattle.line_report.specs.ReportText.{report}
use Rattle.line_report.specs.Reported.{report_of}
use Rattle.line_stats.specs.PlantDates.{PlantDates, AreLeastDates}

-- all least solutions of a plant's graph have one report
abbrev pub HasOneReport : Plant → Type 0
HasOneReport p = (x y : Table) → IsLeast (graph p) x → IsLeast (graph p) y → report p x ≡ report p y

-- two reports of one plant have the same text
abbrev pub HaveOneText : PlantDates → PlantDates → Type 0
HaveOneText r s = r.plant ≡ s.plant → AreLeastDates r → AreLeastDates s → report_of r ≡ report_of s
