-- A live plant with its dates, as what is made of them takes it.
use Rattle.std.proofs.Common.{◌≡◌, ℕ, List, ap, sym, subst, ◌∙◌, inl}
use Rattle.std.specs.Prelude.{Result}
use Rattle.answers.specs.declared.answer.Answer.{Answer}
use Rattle.commands.proofs.OrNoMemory.{OrNoMemory}
use Rattle.commands.specs.Dated.{IsDatedOf}
use Rattle.commands.specs.Reports.{Writes, WritesOfLeast}
use Rattle.commands.specs.declared.dates.DatedPlant.{DatedPlant}
use Rattle.event_graph.specs.Least.{IsLeast}
use Rattle.event_graph.specs.Table.{date_in}
use Rattle.line_stats.specs.PlantDates.{AreOfPlant}
use Rattle.live_check.specs.Order.{LiveGraph}
use Rattle.live_plant.specs.LivePlant.{IsLivePlant}
use Rattle.live_plant.specs.declared.live_plant.LivePlant.{LivePlant}
use Rattle.plant_model.specs.Graph.{graph}
use Rattle.plant_model.specs.Sound.{IsSound}
use Rattle.plant_model.specs.declared.plant.Plant.{Plant}
use Rattle.live_plant.specs.declared.refusals.refusal.Refusal.{Refusal}

module _ (line : LivePlant) (dated : DatedPlant) (is : IsLivePlant line) (of : IsDatedOf line dated) where
  sound : IsSound dated.plant
  sound = subst IsSound (sym of.plant) is.sound

  live_graph : dated.live.graph ≡ graph dated.plant
  live_graph = ap (λ (live : LiveGraph). live.graph) of.live ∙ is.graph ∙ ap graph (sym of.plant)

  table_graph : dated.table.graph ≡ graph dated.plant
  table_graph = of.least.graph_is ∙ ap graph (sym of.plant)

  -- a report, a picture, every date, and a chain of causes
  pub dated_of : AreOfPlant dated.plant dated.live dated.table
  dated_of = record { sound = sound; live_graph = live_graph; table_graph = table_graph }

-- a text that is made of a plant and of its dates
pub writes_dated : (line : LivePlant) (dated : DatedPlant) (text : Plant → (ℕ → ℕ → ℕ) → List ℕ) (p : Plant)
    (rows : List (List ℕ)) (answer : Result Answer Refusal) → IsDatedOf line dated → p ≡ dated.plant →
    rows ≡ dated.table.rows → Writes (text p (date_in rows)) answer →
    OrNoMemory (WritesOfLeast line.plant (text line.plant)) answer
writes_dated line dated text p rows answer of same dates written = inl (record {
  rows = rows;
  least = subst (λ (found : List (List ℕ)). IsLeast (graph line.plant) (date_in found)) (sym dates) of.least.least;
  written = subst (λ (q : Plant). Writes (text q (date_in rows)) answer) (same ∙ of.plant) written;
})
